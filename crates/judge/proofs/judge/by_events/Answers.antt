-- Route 2 asks whether two await the same event.
use native.Mathlib.Omega.{arith}
use Rattle.density.proofs.Decided.{fewer_twice}
use Rattle.judge.proofs.judge.by_events.Goals as goal

pub returns-in-Fewer : goal.returns-in-Fewer
returns-in-Fewer c t tasks blocked =
    let twice = c.awaited_twice.ensures t tasks in
    let fewer = fewer_twice t _ blocked in
    rw c.in-Fewer.is record {
      tasks = λ e. absurd (omega (arith, e));
      events = λ e. absurd (omega (arith, e));
      fewer = λ e. (λ y. fewer.1 (twice.0 y), λ f. twice.1 (fewer.0 f));
    }
