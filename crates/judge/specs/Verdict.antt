-- Document 01, 'The hall sheet': "A judge over a table tests 41, then 44; it hands back what the strip would hold, and on a refusal the verdict of nobody.
-- In both, 22 is the last test."
use Rattle.std.specs.Prelude.{◌≡◌, true, false, Option, None, Some, ℕ, ◌<◌, ◌≤◌, replicate}
use Rattle.sets.specs.Set.{Has, size}
use Rattle.deadlock.specs.Ring.{RingIn}
use Rattle.deadlock.specs.declared.ring.Round.{Round}
use Rattle.answers.specs.Answers.{done, no_step, no_route, not_sound}
use Rattle.hall.specs.Parts.{sound_of}
use Rattle.hall.specs.Waiting.{ImpedesTask}
use Rattle.hall.specs.declared.table.Table.{Table}
use Rattle.judge.specs.Routes.{largest_route, TaskRoute, EventRoute, FewerRoute}
use Rattle.judge.specs.declared.verdict.Verdict.{Verdict}

-- "Nobody named: all zeros, then 255s"
abbrev pub nobody : ℕ → Verdict
nobody answer = record { answer = answer; named = 0; count = 0; length = 0; ring = replicate 32 255 }

-- "the mask of named tasks ..; the count; the ring's length; the ring's task numbers ..", "the count is the number of set bits in the mask"
abbrev pub verdict_of : ℕ → Option Round → Verdict
verdict_of named None = nobody no_step
verdict_of named (Some round) = record { answer = done; named = named; count = size named 32; length = round.length; ring = round.tasks }

-- the verdict of a sound table by route 0, 1 or 2
pub record Found (t : Table) (route : ℕ) (v : Verdict) : Type 0 where
  pub named : ℕ
  pub by_tasks : route ≡ 0 → TaskRoute t named
  pub by_events : route ≡ 1 → EventRoute t named
  pub by_fewer : route ≡ 2 → FewerRoute t named
  pub round : Option Round
  pub ring : RingIn (Has named) (ImpedesTask t) round
  pub verdict : v ≡ verdict_of named round

-- the judge: 41, then 44, then the verdict
pub record Judged (t : Table) (route : ℕ) (v : Verdict) : Type 0 where
  pub no_route : largest_route < route → v ≡ nobody no_route
  pub unsound : route ≤ largest_route → sound_of t ≡ false → v ≡ nobody not_sound
  pub found : route ≤ largest_route → sound_of t ≡ true → Found t route v
