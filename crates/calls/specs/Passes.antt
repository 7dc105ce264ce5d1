-- What parts of analysis and redo come to: their answer, and the tables or the copies as they leave them. Assumes nothing.
use Rattle.std.specs.Prelude.{ℕ, suc, Bool, cond, List, Ok, Err, Result}
use Rattle.format.specs.declared.page.Page.{Page}
use Rattle.rules.specs.declared.refusal.Refusal.{Refusal}
use Rattle.rules.specs.Restart.{Tables, tables, Start, Replay}
use Rattle.rules.specs.State.{Found}
use Rattle.rules.specs.Tables.{Jobs, Dirty}

-- Analysis

-- slots that were read
abbrev pub stepped : Result (Unit {0}) Refusal → Jobs → Dirty → Result Tables Refusal
stepped (Ok u) jobs dirty = Ok (tables jobs dirty)
stepped (Err why) jobs dirty = Err why

-- the entries of a checkpoint, where its begin is known
abbrev pub begun : ℕ → Result (Unit {0}) Refusal → Jobs → Dirty → Result Start Refusal
begun begin (Ok u) jobs dirty = Ok (record { begin = begin; found = tables jobs dirty })
begun begin (Err why) jobs dirty = Err why

-- where to begin
abbrev pub started : Result ℕ Refusal → Jobs → Dirty → Result Start Refusal
started (Ok begin) jobs dirty = Ok (record { begin = begin; found = tables jobs dirty })
started (Err why) jobs dirty = Err why

-- the whole
abbrev pub found : Result ℕ Refusal → Jobs → Dirty → Result Found Refusal
found (Ok begin) jobs dirty = Ok (record { jobs = jobs; dirty = dirty; first = begin })
found (Err why) jobs dirty = Err why

-- Redo

-- a pass over slots, by how many records it played
abbrev pub replayed_to : Result ℕ Refusal → List Page → Result Replay Refusal
replayed_to (Ok count) copies = Ok (record { copies = copies; count = count })
replayed_to (Err why) copies = Err why

-- one slot after that many records played, by whether it is another
abbrev pub one_replayed : ℕ → Result Bool Refusal → List Page → Result Replay Refusal
one_replayed count (Ok more) copies = Ok (record { copies = copies; count = cond more (suc count) count })
one_replayed count (Err why) copies = Err why
