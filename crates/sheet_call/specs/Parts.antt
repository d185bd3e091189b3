-- What the parts of the code hand each other; nobody need believe this file.
use Rattle.std.specs.Prelude.{List, ℕ, Result, Ok, Err}
use Rattle.answers.specs.Answers.{number_of}
use Rattle.answers.specs.declared.Refusal.{Refusal}
use Rattle.writer.specs.Next.{HandedOver, hands_over, stays}
use Rattle.writer.specs.declared.next.SheetCalled.{SheetCalled}

-- what is handed over of a call that was made, and of one that was not
abbrev pub handed : Result SheetCalled Refusal → List ℕ → HandedOver
handed (Ok c) next = hands_over c.answer c.value c.length next
handed (Err r) next = stays (number_of r) next
