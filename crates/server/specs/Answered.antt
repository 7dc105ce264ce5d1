-- What a call answers, as the rules answer it. Assumes nothing.
use Rattle.std.specs.Prelude.{ℕ, List, Some, None, Ok, Err, Option, Result}
use Rattle.rules.specs.declared.refusal.Refusal.{Refusal}
use Rattle.rules.specs.declared.refusal.Refusal.TheVariants.{PowerLost}
use Rattle.server.specs.declared.handles.JobHandle.{JobHandle}
use Rattle.server.specs.declared.not_ended.NotEnded.{NotEnded}
use Rattle.server.specs.declared.not_ended.NotEnded.TheVariants as not_ended

-- of a pass its numbers, beside which there is a receipt
abbrev pub numbers_of : {A B : Type 0} → Result (A × B) Refusal → Result A Refusal
numbers_of (Ok x) = Ok x.0
numbers_of (Err why) = Err why

-- of open the job's number
abbrev pub handle_number : Result JobHandle Refusal → Result ℕ Refusal
handle_number (Ok job) = Ok job.number
handle_number (Err why) = Err why

-- of a call that fills a buffer the bytes in it
abbrev pub bytes_in : Result (Unit {0}) Refusal → List ℕ → Result (List ℕ) Refusal
bytes_in (Ok u) bytes = Ok bytes
bytes_in (Err why) bytes = Err why

-- of commit and abort why the job was not ended, and the handle that is given back with that
abbrev pub refusal_in : NotEnded → Refusal
refusal_in (not_ended.Refused why job) = why
refusal_in (not_ended.PowerLost device place) = PowerLost device place

abbrev pub given_back : NotEnded → Option JobHandle
given_back (not_ended.Refused why job) = Some job
given_back (not_ended.PowerLost device place) = None

abbrev pub ended : {A : Type 0} → Result A NotEnded → Result A Refusal
ended (Ok a) = Ok a
ended (Err e) = Err (refusal_in e)
