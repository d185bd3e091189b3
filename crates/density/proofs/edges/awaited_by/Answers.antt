use Rattle.sets.specs.Set.{Has}
use lib.ListN.{get_or}
use Prim.Native.Nat.{ℕ}
use Rattle.sets.proofs.Testing.{those_with}
use Rattle.density.proofs.edges.awaited_by.Goals as goal

pub returns : goal.returns
returns c = record {
  iff = those_with (λ k. (u : ℕ) × Has (get_or c.args.events.waiters k 0) u × Has c.args.tasks u) (λ k b h e. e) c.those.ensures;
}
