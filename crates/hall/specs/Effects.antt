-- What an accepted call may change: a task's state, one entry, one phaser opened or closed, all the entries of a task.
use Rattle.std.specs.Prelude.{Bool, false, List, ℕ, zero, suc, ◌+◌, ◌*◌, set}
use Rattle.states.specs.State.{phase0}
use Rattle.states.specs.declared.state.State.{State}
use Rattle.hall.specs.Table.{Entry}
use Rattle.hall.specs.declared.table.Table.{Table}

-- task k has state s
unfoldable pub with_state : Table → ℕ → State → Table
with_state t k s = record {
  tasks = set t.tasks k (record { state = s });
  opened = t.opened;
  phases = t.phases;
  members = t.members;
}

-- task k has entry e for phaser p
unfoldable pub with_entry : Table → ℕ → ℕ → Entry → Table
with_entry t k p e = record {
  tasks = t.tasks;
  opened = t.opened;
  phases = set t.phases (k * 16 + p) (record { 0 = e.phase });
  members = set t.members (k * 16 + p) e.member;
}

-- phaser p is open, or not
unfoldable pub with_open : Table → ℕ → Bool → Table
with_open t p opened = record {
  tasks = t.tasks;
  opened = set t.opened p opened;
  phases = t.phases;
  members = t.members;
}

-- v at the n places from b on
unfoldable pub filled : {A : Type 0} → List A → ℕ → ℕ → A → List A
filled l b zero v = l
filled l b (suc n) v = set (filled l b n v) (b + n) v

-- the first n of task k's entries are of no member
unfoldable pub without_entries : Table → ℕ → ℕ → Table
without_entries t k n = record {
  tasks = t.tasks;
  opened = t.opened;
  phases = filled t.phases (k * 16) n phase0;
  members = filled t.members (k * 16) n false;
}
