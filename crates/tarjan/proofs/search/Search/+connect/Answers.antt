use native.Mathlib.Omega.{arith}
use mathlib.Core.Path.{sym, ◌∙◌}
use Rattle.tarjan.proofs.Arrays.{unseen, entered, looked_on, looked_off, stack_room, next_room, put}
use Rattle.tarjan.proofs.Follows.{follow_start, follow_value, follow_turn, follow_end}
use Rattle.components.specs.Tarjan.{push}
use Rattle.tarjan.proofs.Leaves.{refs_values, pops, stays, leaves}
use Rattle.tarjan.proofs.search.Search.+connect.Goals as goal

-- ---- follow

pub follow-strongly_connect-requires : goal.follow-strongly_connect-requires
follow-strongly_connect-requires t c =
    let l = c.requires.0 in
    let h = c.requires.1.1 in
    (omega (arith, c.decreases), (l, (c.requires.1.0, h, unseen h c.args.w l (sym c.from-index.ensures ∙ c.if-index-eq0.true))))

pub follow-returns-then-index-eq0-clause-gives : goal.follow-returns-then-index-eq0-clause-gives
follow-returns-then-index-eq0-clause-gives t c =
    let w = c.args.w in
    let l = c.requires.0 in
    let e = sym c.from-index.ensures ∙ c.if-index-eq0.true in
    λ s h. entered h w l c.args.low e (c.strongly_connect.ensures.gives s h (unseen h w l e)) c.min.ensures

pub follow-returns-then-contains-clause-gives : goal.follow-returns-then-contains-clause-gives
follow-returns-then-contains-clause-gives t c = λ s h. looked_on h c.args.w c.requires.0 c.args.low c.from-index.ensures c.if-index-eq0.false (sym c.if-contains.true ∙ c.contains.ensures) c.min-then-contains.ensures

pub follow-returns-else-contains-clause-gives : goal.follow-returns-else-contains-clause-gives
follow-returns-else-contains-clause-gives t c = λ s h. looked_off h c.args.w c.requires.0 c.args.low c.from-index.ensures c.if-index-eq0.false (sym c.if-contains.false ∙ c.contains.ensures)

-- ---- follow_all

pub follow_all-loop-k-init : goal.follow_all-loop-k-init
follow_all-loop-k-init t c = follow_start _ _ _ _ _ c.list_len-k-end.ensures.same

pub follow_all-follow-low-requires : goal.follow_all-follow-low-requires
follow_all-follow-low-requires t c =
    let u = c.loop-k.invariant.so_far c.requires.1.0 c.requires.1.1 in
    (omega (arith, c.decreases, c.loop-k.invariant.grows), (follow_value c.loop-k.invariant c.loop-k-test.true c.list_item-w.ensures.same c.requires.0, (u.0, u.1)))

pub follow_all-loop-k-preserved : goal.follow_all-loop-k-preserved
follow_all-loop-k-preserved t c = follow_turn c.loop-k.invariant c.loop-k-test.true c.list_item-w.ensures.same c.follow-low.ensures.grows c.follow-low.ensures.gives

pub follow_all-returns : goal.follow_all-returns
follow_all-returns t c = record { grows = c.loop-k.invariant.grows; gives = follow_end c.loop-k.invariant c.loop-k-test.false }

-- ---- strongly_connect

pub strongly_connect-overflow_add-self : goal.strongly_connect-overflow_add-self
strongly_connect-overflow_add-self t c =
    let p = c.requires in
    omega (arith, next_room p.1.1 c.args.v p.0 p.1.2)

pub strongly_connect-overflow_cast-self : goal.strongly_connect-overflow_cast-self
strongly_connect-overflow_cast-self t c =
    let p = c.requires in
    omega (arith, next_room p.1.1 c.args.v p.0 p.1.2)

pub strongly_connect-push-requires : goal.strongly_connect-push-requires
strongly_connect-push-requires t c =
    let p = c.requires in
    (omega (arith, stack_room p.1.1 c.args.v p.0 p.1.2), p.1.1.top_le, p.1.1.len_stack, omega (arith, p.0, p.1.1.in_range.few))

pub strongly_connect-follow_all-low-requires : goal.strongly_connect-follow_all-low-requires
strongly_connect-follow_all-low-requires t c =
    let v = c.args.v in
    let l = c.requires.0 in
    let h = c.requires.1.1 in
    let z = c.requires.1.2 in (
      omega (arith, c.decreases, next_room h v l z),
      (refs_values h.in_range l c.list_of-s.ensures, (push v c.requires.1.0, put h v l z c.push.ensures)),
    )

pub strongly_connect-pop-requires : goal.strongly_connect-pop-requires
strongly_connect-pop-requires t c =
    let v = c.args.v in
    let l = c.requires.0 in
    let h = c.requires.1.1 in
    let z = c.requires.1.2 in
    pops h l z c.list_of-s.ensures (c.follow_all-low.ensures.gives (push v c.requires.1.0) (put h v l z c.push.ensures))

pub strongly_connect-returns-then-low-index-clause-gives : goal.strongly_connect-returns-then-low-index-clause-gives
strongly_connect-returns-then-low-index-clause-gives t c =
    let v = c.args.v in
    let l = c.requires.0 in
    λ s h z. leaves h l z c.list_of-s.ensures (c.follow_all-low.ensures.gives (push v s) (put h v l z c.push.ensures)) c.if-low-index.true c.pop.ensures

pub strongly_connect-returns-else-low-index-clause-gives : goal.strongly_connect-returns-else-low-index-clause-gives
strongly_connect-returns-else-low-index-clause-gives t c =
    let v = c.args.v in
    let l = c.requires.0 in
    λ s h z. stays h l z c.list_of-s.ensures (c.follow_all-low.ensures.gives (push v s) (put h v l z c.push.ensures)) c.if-low-index.false
