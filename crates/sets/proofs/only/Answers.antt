use mathlib.Core.Path.{◌≡◌}
use mathlib.Core.Logic.{◌↔◌}
use Prim.Native.Nat.{ℕ, ◌^◌, ◌<◌}
use native.Mathlib.Omega.{arith}
use Rattle.sets.specs.Set.{Has}
use Rattle.sets.proofs.Bits.{one_shl}
use Rattle.sets.proofs.Members.{power_iff}
use Rattle.sets.proofs.only.Goals as goal

-- a number that is 2 ^ t has t and nobody else
only_iff : (t r k : ℕ) → t < 32 → r ≡ 2 ^ t → Has r k ↔ ((k < 32) × (k ≡ t))
only_iff t r k l e = rw e (λ h. let q = (power_iff t k).0 h in (omega arith, q), λ h. (power_iff t k).1 h.1)

pub returns-then-task-lt32 : goal.returns-then-task-lt32
returns-then-task-lt32 c k =
    let t = c.args.task in
    let l : t < 32 = omega (arith, c.if-task-lt32.true) in
    only_iff t _ k l (one_shl 32 t l)
