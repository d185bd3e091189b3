-- Each public promise allows one answer.
use mathlib.Core.Path.{◌≡◌, refl, ap, sym, ◌∙◌, subst}
use native.Mathlib.Omega.{arith}
use Rattle.std.proofs.Common.{Result, Ok, Err}
use Rattle.answers.specs.Answers.{answer_of}
use Rattle.answers.specs.declared.Refusal.{Refusal}
use Rattle.answers.proofs.Numbers.{number_high, number_one}
use mathlib.Core.List.{List, []}
use Prim.Native.Nat.{ℕ}
use Rattle.sets.specs.Set.{Has}
use Rattle.sets.proofs.One.{has_one, lowest_one, by_lowest_one}
use Rattle.sets.proofs.Widths.{same_members}
use Rattle.deadlock.specs.Ring.{Next}
use Rattle.deadlock.specs.Walk.{Row}
use Rattle.deadlock.proofs.One.{named_one, ring_in_one}
use Rattle.states.specs.declared.state.Task.{Task}
use Rattle.seating.proofs.One.{seats_in_one, blocked_in_one, rows_in_one}
use Rattle.hall.specs.Parts.{BlockedSet}
use Rattle.hall.specs.declared.table.Table.{Table}
use Rattle.hall.proofs.One.{blocked_one, edges_one, seats_one}
use Rattle.density.specs.Parts.{AwaitedTwice}
use Rattle.density.proofs.Decided.{density_one}
use Rattle.judge.specs.declared.verdict.Verdict.{Verdict}
use Rattle.judge.proofs.Named.{task_one, event_one}
use Rattle.judge.proofs.One.{judged_one}
use Rattle.text.specs.Text.{text_with}
use Rattle.text.specs.Verdict.{verdict_text}
use Rattle.sheet.specs.Reader.{Sheet, hands}
use Rattle.sheet.proofs.Theorems.{one_number}
use Rattle.sheet_file.proofs.One.{counted_one}
use Rattle.writer.proofs.Handing.{called_one}
use Rattle.writer.proofs.Theorems.{written_one}
use Rattle.sheet_call.proofs.Theorems.{handed_one}
use Rattle.mollavisce.proofs.One.{sheet_judged_one, entered_one}
use Rattle.demands.specs.OneAnswer.{One, OneLent, OneAnswer}
use Rattle.demands.proofs.Named.{kind_one, next_one, route_one}
use Rattle.demands.proofs.OfTables.{rewritten_one}
use Rattle.demands.proofs.OneStep.{step_one}
use Rattle.demands.proofs.calls.call.Reads as own_call
use Rattle.demands.proofs.densities.density_of.Reads as own_density_of
use Rattle.demands.proofs.densities.next_step.Reads as own_next_step
use Rattle.demands.proofs.judging.judge.Reads as own_judge
use Rattle.demands.proofs.judging.verdicts.Reads as own_verdicts
use Rattle.demands.proofs.judging.routes.Reads as own_routes
use Rattle.demands.proofs.sheets.read.Reads as own_read
use Rattle.demands.proofs.sheets.verdict_of.Reads as own_verdict_of
use Rattle.demands.proofs.sheets.sheet_verdict.Reads as own_sheet_verdict
use Rattle.demands.proofs.sheets.sheet_call.Reads as own_sheet_call
use Rattle.demands.proofs.sheets.text_of.Reads as own_text_of
use Rattle.demands.proofs.writing.write.Reads as own_write
use Rattle.demands.proofs.writing.rewrite.Reads as own_rewrite

-- two that equal a third
both : {A : Type 0} {x y z : A} → x ≡ z → y ≡ z → x ≡ y
both p q = p ∙ sym q

-- two results with one answer, and one value where they are accepted
result_one : {A : Type 0} (r r' : Result A Refusal) → answer_of r ≡ answer_of r' → ((a b : A) → r ≡ Ok a → r' ≡ Ok b → a ≡ b) → r ≡ r'
result_one (Ok a) (Ok b) e h = ap Ok (h a b refl refl)
result_one (Ok a) (Err y) e h = absurd (omega (arith, e, number_high y))
result_one (Err x) (Ok b) e h = absurd (omega (arith, e, number_high x))
result_one (Err x) (Err y) e h = ap Err (number_one x y e)

-- what is read: the table, and whatever an accepted sheet's table fixes
read_one_lem : {A : Type 0} (r r' : Result A Refusal) {t u : Table} → hands (answer_of r) t ≡ hands (answer_of r') u
    → ((a b : A) → t ≡ u → r ≡ Ok a → r' ≡ Ok b → a ≡ b) → (r ≡ r') × (t ≡ u)
read_one_lem r r' same h =
    let table = ap (λ (s : Sheet). s.table) same in
    (result_one r r' (ap (λ (s : Sheet). s.answer) same) (λ a b. h a b table), table)

-- what is read with its blocked tasks, which the table fixes
blocked_read_one : {A : Type 0} {r r' : A} {t u : Table} {m n : ℕ} → (r ≡ r') × (t ≡ u) → BlockedSet t m → BlockedSet u n
    → (r ≡ r') × (◌≡◌ {A = Table × ℕ} (t, m) (u, n))
blocked_read_one {u = u} {m = m} {n = n} read x y =
    let blocked = blocked_one u m n (subst (λ v. BlockedSet v m) read.1 x) y in
    (read.0, λ i. (read.1 i, blocked i))

-- some table that has these tasks
abbrev with_tasks : List Task → Table
with_tasks tasks = record { tasks = tasks; opened = []; phases = []; members = [] }

pub one_answer : OneAnswer
one_answer = record {
  answers = λ κ a r r' e e'. both;
  sets = (
    λ κ a r r' e e'. has_one (Has a.0 a.1.0) r r',
    λ κ a r r' e e'. same_members _ r r',
    λ κ a r r' e e'. same_members _ r r',
    λ κ a r r' e e'. same_members _ r r',
    λ κ a r r' e e'. same_members _ r r',
    λ κ a r r' e e'. same_members _ r r',
    λ κ a r r' e e'. same_members _ r r',
    λ κ a r r' e e'. same_members _ r r',
    λ κ a r r' e e'. both,
    λ κ a r r' e e'. lowest_one a.0 r r',
    λ κ a r r' e e'. by_lowest_one a.0 r r' _,
    λ κ a r r' e e' p q. ap (λ (n : ℕ). record { left = n }) (both p q),
    λ κ a r r' e e' p q. next_one a.0.now.left r r' e.0.now.left e'.0.now.left p.0 q.0,
  );
  deadlock = (
    λ κ a r r' e e'. named_one (Row a.1.0 a.0) r r',
    λ κ a r r' e e'. ring_in_one (Has a.1.0) (Next a.0) r r',
  );
  states = (
    λ κ a r r' e e'. both,
    λ κ a r r' e e'. both,
    λ κ a r r' e e'. both,
    λ κ a r r' e e'. both,
    λ κ a r r' e e'. both,
    λ κ a r r' e e'. both,
    λ κ a r r' e e'. both,
    λ κ a r r' e e'. both,
    λ κ a r r' e e'. both,
    λ κ a r r' e e'. both,
    λ κ a r r' e e'. both,
    λ κ a r r' e e'. both,
    λ κ a r r' e e' p q. result_one r r' (both p q) (λ x y i j. refl),
    λ κ a r r' e e' p q. result_one r r' (both p q) (λ x y i j. refl),
    λ κ a r r' e e' p q. result_one r r' (both p q) (λ x y i j. refl),
    λ κ a r r' e e' p q. result_one r r' (both p q) (λ x y i j. refl),
    λ κ a r r' e e' p q. result_one r r' (both p q) (λ x y i j. refl),
  );
  seating = (
    λ κ a r r' e e'. seats_in_one a.0 a.1.0 a.1.1.0 r r',
    λ κ a r r' e e'. blocked_in_one a.0 r r',
    λ κ a r r' e e'. rows_in_one a.0 a.1.0 a.1.1.0 r r',
  );
  hall = (
    λ κ a r r' e e'. both,
    λ κ a r r' e e' p q. both p.0 q.0,
    λ κ a r r' e e'. both,
    λ κ a r r' e e'. both,
    λ κ a r r' e e'. both,
    λ κ a r r' e e' p q. ap (λ (n : ℕ). record { 0 = n }) (both p q),
    λ κ a r r' e e'. both,
    λ κ a r r' e e'. both,
    λ κ a r r' e e'. blocked_one a.0 r r',
    λ κ a r r' e e'. seats_one a.0 a.1.0 r r',
    λ κ a r r' e e'. edges_one a.0 a.1.0 r r',
    λ κ a r r' e e'. both,
    λ κ a r r' e e'. both,
    λ κ a r r' e e'. both,
    λ κ a r r' e e'. both,
    λ κ a r r' e e'. both,
    λ κ a r r' e e'. both,
    λ κ a r r' e e'. both,
    λ κ a r r' e e'. both,
    λ κ a r r' e e'. both,
    λ κ a r r' e e'. both,
    λ κ a r r' e e'. both,
    λ κ a r r' e e'. kind_one a.0 r r',
  );
  density = (
    λ κ a r r' e e'. density_one a.0 r r',
    λ κ a r r' e e' p q. let t = with_tasks a.0 in has_one (AwaitedTwice t a.1.0) r r' (p t refl) (q t refl),
  );
  judge = (
    λ κ a r r' e e'. task_one a.0 r r',
    λ κ a r r' e e'. event_one a.0 r r',
    λ κ a r r' e e'. judged_one a.0 a.1.0 r r',
    λ κ a r r' e e'. sheet_judged_one _ a.1.0 r r',
    λ κ a r r' e e'. both,
    λ κ a r r' e e'. route_one a.0 r r',
  );
  text = (
    λ κ a r r' e e' p q. both p.0 q.0,
    λ κ a r r' e e' p q. both p.0 q.0,
    λ κ a r r' e e' p q. both p.0 q.0,
    λ κ a r r' e e' p q. both p.0 q.0,
  );
  fields = (
    λ κ a r r' e e' p q. one_number r r' (both p q),
    λ κ a r r' e e' p q. one_number r r' (both p q),
    λ κ a r r' e e' p q. one_number r r' (both p q),
    λ κ a r r' e e' p q. result_one r r' (both p q) (λ x y i j. refl),
  );
  sheet = (
    λ κ a r r' e e' p q. blocked_read_one (read_one_lem r r' (both p.0 q.0) (λ x y t i j. refl)) p.1 q.1,
    λ κ a r r' e e' p q. read_one_lem r r' (both p q) (λ x y t i j. refl),
  );
  sheet_file = (
    λ κ a r r' e e'. counted_one _ r r',
    λ κ a r r' e e'. both,
    λ κ a r r' e e' p q. both p.0 q.0,
    λ κ a r r' e e'. both,
    λ κ a r r' e e'. both,
    λ κ a r r' e e'. both,
  );
  writer = (
    λ κ a r r' e e' p q. (called_one r r' (both (p []) (q []))).0,
    λ κ a r r' e e' p q. called_one r r' (both p q),
    λ κ a r r' e e' p q. written_one r r' (both p q),
  );
  sheet_call = λ κ a r r' e e' p q. handed_one (both p q);
  mollavisce = (
    λ κ a r r' e e'. sheet_judged_one _ a.1.0 r r',
    λ κ a r r' e e'. entered_one _ a.1.0 _ r r' _ _,
  );
}

-- ---- the functions of this crate, which hand on what others hand back
pub call_one : One own_call.Learnt
call_one κ a r r' e e' p q = both p.0.is q.0.is

pub density_of_one : One own_density_of.Learnt
density_of_one κ a r r' e e' p q = density_one a.0 r r' p.is q.is

pub next_step_one : One own_next_step.Learnt
next_step_one κ a r r' e e' = step_one _ a.1.0 r r'

pub judge_one : One own_judge.Learnt
judge_one κ a r r' e e' p q = judged_one a.0 a.1.0 r r' p.is q.is

pub verdicts_one : One own_verdicts.Learnt
verdicts_one κ a r r' e e' p q =
    let tasks = judged_one a.0 0 r.tasks r'.tasks p.1.is q.1.is in
    let events = sym p.0.0 ∙ tasks ∙ q.0.0 in
    let fewer = sym p.0.1 ∙ tasks ∙ q.0.1 in
    λ i. record { tasks = tasks i; events = events i; fewer = fewer i }

pub routes_one : One own_routes.Learnt
routes_one κ a r r' e e' p q =
    let tasks = same_members _ r.0 r'.0 p.stuck q.stuck in
    let events = sym p.same ∙ tasks ∙ q.same in
    λ i. (tasks i, events i)

pub read_one : OneLent (λ κ e. e.1.0.now) own_read.Learnt
read_one κ a r r' e e' p q = read_one_lem r r' (both p.is q.is) (λ x y t i j. refl)

pub verdict_of_one : One own_verdict_of.Learnt
verdict_of_one κ a r r' e e' p q = sheet_judged_one _ a.1.0 r r' p.is q.is

pub sheet_verdict_one : OneLent (λ κ e. e.1.1.0.now) own_sheet_verdict.Learnt
sheet_verdict_one κ a r r' e e' p q = entered_one _ a.1.0 _ r r' _ _ p.is q.is

pub sheet_call_one : OneLent {B = List ℕ × ℕ × ℕ}
    (λ κ e. let lent = e.1.1.1.1.1.1 in (lent.0.now, lent.1.0.now, lent.1.1.0.now)) own_sheet_call.Learnt
sheet_call_one κ a r r' e e' p q = handed_one (both p.is q.is)

pub text_of_one : One own_text_of.Learnt
text_of_one κ a r r' e e' p q =
    let same = sheet_judged_one _ 0 p.verdict q.verdict p.judged.is q.judged.is in
    both p.is (q.is ∙ ap (λ (v : Verdict). text_with (verdict_text v)) (sym same))

pub write_one : OneLent (λ κ e. e.1.0.now) own_write.Learnt
write_one κ a r r' e e' p q = written_one r r' (both p.is q.is)

pub rewrite_one : OneLent (λ κ e. e.1.0.now) own_rewrite.Learnt
rewrite_one κ a r r' e e' p q = written_one r r' (rewritten_one _ _ _ _ _ _ _ _ p q)
