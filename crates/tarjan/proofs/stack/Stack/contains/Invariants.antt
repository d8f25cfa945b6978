use Rattle.tarjan.proofs.Asks.{AskStack}
use Rattle.tarjan.proofs.stack.Stack.contains.Given as goal

abbrev pub invariant-loop-i : goal.invariant-loop-i
invariant-loop-i l = AskStack l.self.values l.self.top l.w l.i
