-- Document 01, 'The ten calls': what each kind answers over a sound table: where it is accepted, and then its row's refusals in their order.
use Rattle.std.specs.Prelude.{List, [], ◌∷◌, ℕ, get_or}
use Rattle.answers.specs.Answers.{done, wait_passed, now_blocked, no_task, no_phaser, caller_blocked, target_blocked, not_member, already_member}
use Rattle.answers.specs.Answers.{phase_too_large, none_free, not_blocked, not_reached, in_use, no_kind}

abbrev pub answers_of : ℕ → List ℕ
answers_of kind =
    get_or (
    (done ∷ none_free ∷ [])
    ∷ (done ∷ no_task ∷ caller_blocked ∷ [])
    ∷ (done ∷ no_task ∷ caller_blocked ∷ none_free ∷ [])
    ∷ (done ∷ no_phaser ∷ in_use ∷ [])
    ∷ (done ∷ no_task ∷ caller_blocked ∷ no_phaser ∷ not_member ∷ no_task ∷ target_blocked ∷ already_member ∷ [])
    ∷ (done ∷ no_task ∷ caller_blocked ∷ no_phaser ∷ not_member ∷ [])
    ∷ (done ∷ no_task ∷ caller_blocked ∷ no_phaser ∷ not_member ∷ phase_too_large ∷ [])
    ∷ (wait_passed ∷ now_blocked ∷ no_task ∷ caller_blocked ∷ no_phaser ∷ not_member ∷ [])
    ∷ (wait_passed ∷ now_blocked ∷ no_task ∷ caller_blocked ∷ no_phaser ∷ phase_too_large ∷ [])
    ∷ (done ∷ no_task ∷ not_blocked ∷ not_reached ∷ [])
    ∷ [])
    kind (no_kind ∷ [])
