use native.Mathlib.Omega.{arith}
use lib.ListN.{length-append}
use Rattle.text.specs.Density.{blocked_word, events_word, task_word, event_word, task_event_word, density_words}
use Rattle.text.proofs.Said.{adds_both}
use Rattle.text.proofs.Wordings.{said_as}
use Rattle.text.proofs.densities.density_words.Goals as goal

pub returns : goal.returns
unfolding density_words
returns c =
    let d = c.args.density in
    let blocked = said_as blocked_word _ d.blocked (c.worded-blocked.ensures.adds, c.worded-blocked.ensures.short) (omega arith) in
    let events = said_as events_word _ d.events (c.worded-events.ensures.adds, c.worded-events.ensures.short) (omega arith) in
    let tasks = said_as task_word _ d.task_edges (c.worded-task_edges.ensures.adds, c.worded-task_edges.ensures.short) (omega arith) in
    let edges = said_as event_word _ d.event_edges (c.worded-event_edges.ensures.adds, c.worded-event_edges.ensures.short) (omega arith) in
    let both = said_as task_event_word _ d.task_event_edges (c.worded.ensures.adds, c.worded.ensures.short) (omega arith) in record {
      adds = adds_both blocked.0 (adds_both events.0 (adds_both tasks.0 (adds_both edges.0 both.0)));
      short = simp length-append (omega (arith, blocked.1, events.1, tasks.1, edges.1, both.1));
    }
