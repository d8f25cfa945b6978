use native.Mathlib.Omega.{arith}
use Rattle.std.specs.Prelude.{Some}
use Rattle.structure.specs.Words.{look_at}
use Rattle.structure.proofs.Walking.{turned_is, going_on, later}
use Rattle.structure.proofs.tree.ListTrees.walk.Goals as goal

pub turn_at-requires : goal.turn_at-requires
turn_at-requires c = (c.requires.1.shape.most, c.requires.1.members, c.loop-l.invariant.2)

pub loop-l-smaller : goal.loop-l-smaller
loop-l-smaller c =
    let t = turned_is (look_at c.args.look.now c.args.s) c.args.self.now.cells c.args.self.now.tests c.args.self.now.members.keys c.args.i c.loop-l.ahead.cell c.loop-l.ahead.other (Some c.in-Some.l) c.loop-l.invariant.1 c.in-Some.ensures in
    omega (arith, later c.requires.1.shape c.loop-l.invariant.0 t, t.0)

pub loop-l-preserved : goal.loop-l-preserved
loop-l-preserved c =
    let t = turned_is (look_at c.args.look.now c.args.s) c.args.self.now.cells c.args.self.now.tests c.args.self.now.members.keys c.args.i c.loop-l.ahead.cell c.loop-l.ahead.other (Some c.in-Some.l) c.loop-l.invariant.1 c.in-Some.ensures in
    let p = c.pass_on-ahead-in-Some.ensures in
    (going_on c.requires.1.shape c.loop-l.invariant.0 t p, p.stopped, p.forked)
