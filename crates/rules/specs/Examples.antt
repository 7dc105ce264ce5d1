-- Worked runs, computed by the definitions. Assumes nothing.
use Rattle.std.specs.Prelude.{◌≡◌, ℕ, ◌-◌, ◌≤◌, true, List, [], ◌∷◌, ◌++◌, length, drop, replicate, Some, None, Ok, Err, Option, Result, slice_index, slice_index_or}
use Rattle.format.specs.declared.page.Page.{Page}
use Rattle.changes.specs.declared.patch.Patch.{Patch}
use Rattle.changes.specs.declared.addition.Addition.{Addition}
use Rattle.changes.specs.Additions.{addition_meaning}
use Rattle.format.specs.Bytes.{number_at, spelled}
use Rattle.format.specs.Changes.{Meaning}
use Rattle.changes.specs.Patches.{patch_meaning}
use Rattle.rules.specs.declared.refusal.Device.{Device}
use Rattle.rules.specs.declared.refusal.Device.TheVariants as device
use Rattle.rules.specs.declared.refusal.Refusal.{Refusal}
use Rattle.rules.specs.Ledger.{Ledger, empty}
use Rattle.rules.specs.Numbers.{number_of, place_of}
use Rattle.rules.specs.Plans.{Does}
use Rattle.rules.specs.Runner.{Failure, power_kept, more, run, Ran}
use Rattle.rules.specs.Runs.{Call, analysis, redo, undo, service, ServiceCall, opens, fetches, records, ships, writes_out, commits, aborts, looks, checkpoints, Answer, Answers, plan_of, told, blank, Reaches}
use Rattle.rules.specs.State.{Memory, out, analysed, redone, serving, World}

-- A call with what failure has for it, and what comes of it

pub record Event : Type 0 where
  pub call : Call
  pub failure : Failure

-- the power stays on
abbrev pub calls : Call → Event
calls c = record { call = c; failure = power_kept }

pub record Point (C : Type 0) : Type 0 where
  pub ledger : Ledger C
  pub world : World
  pub answers : List (List ℕ)

-- an answer as numbers: 0 and what was answered, or the number of the refusal, with the device (0 the page store, 1 the log) and the page or slot where power was lost
abbrev pub numbers_of : (c : ServiceCall) → Answers c → List ℕ
numbers_of opens a = a ∷ []
numbers_of (fetches j p n) a = a
numbers_of (records j p l b) a = []
numbers_of (ships j p b) a = []
numbers_of (writes_out p) a = []
numbers_of (commits j) a = a ∷ []
numbers_of (aborts j) a = []
numbers_of (looks p n) a = a
numbers_of checkpoints a = a ∷ []

abbrev pub accepted_as : (c : Call) → Answer c → List ℕ
accepted_as analysis a = a.0 ∷ a.1 ∷ a.2 ∷ []
accepted_as redo a = a.0 ∷ a.1 ∷ []
accepted_as undo a = a.0 ∷ a.1 ∷ []
accepted_as (service c) a = numbers_of c a

abbrev pub device_number : Device → ℕ
device_number device.Pages = 0
device_number device.Log = 1

abbrev pub place_numbers : Option (Device × ℕ) → List ℕ
place_numbers None = []
place_numbers (Some x) = device_number x.0 ∷ x.1 ∷ []

abbrev pub answer_of : (c : Call) → Result (Answer c) Refusal → List ℕ
answer_of c (Ok a) = 0 ∷ accepted_as c a
answer_of c (Err why) = number_of why ∷ place_numbers (place_of why)

module _ {C : Type 0} (m : Meaning C) where
  abbrev pub next_point : (c : Call) → Point C → Ran m (Answer c) → Point C
  next_point c s x = record { ledger = told m c x.answer x.world s.ledger; world = x.world; answers = s.answers ++ answer_of c x.answer ∷ [] }

  abbrev pub history : List Event → Point C → Point C
  history [] s = s
  history (e ∷ es) s = history es (next_point e.call s (run m e.failure (plan_of m e.call s.world) s.world))

  -- a server just made over blank devices that have power
  abbrev pub begin : ℕ → ℕ → Point C
  begin pages slots = record { ledger = empty; world = record { devices = blank m pages slots true true; memory = out }; answers = [] }

  abbrev pub run_from_blank : ℕ → ℕ → List Event → Point C
  run_from_blank pages slots es = history es (begin pages slots)

-- What is looked at

abbrev pub restart : List Event
restart = calls analysis ∷ calls redo ∷ calls undo ∷ []

abbrev pub kinds_of : List (List ℕ) → List ℕ
kinds_of [] = []
kinds_of (b ∷ bs) = slice_index b 0 ∷ kinds_of bs

-- the kinds of the slots in the log
abbrev pub log_kinds : {C : Type 0} → Point C → List ℕ
log_kinds s = kinds_of s.world.devices.log.slots

abbrev pub copies_in : Memory → List Page
copies_in out = []
copies_in (analysed x) = []
copies_in (redone x) = x.copies
copies_in (serving x) = x.copies

-- the LRC of a page's copy and the number at the beginning of its content
abbrev pub copy_in : {C : Type 0} → Point C → ℕ → ℕ × ℕ
copy_in s p = let c = slice_index_or (copies_in s.world.memory) p (record { lrc = 0; content = [] }) in (c.lrc, number_at c.content 0)

-- Calls, with the bytes that they hand over

-- a patch of n bytes x at an offset
abbrev pub patch_of : ℕ → ℕ → ℕ → List ℕ
patch_of offset n x = 1 ∷ offset ∷ n ∷ 0 ∷ (replicate n x ++ replicate (36 - n) 0)

abbrev pub addition_of : ℕ → ℕ → List ℕ
addition_of offset amount = 2 ∷ offset ∷ 0 ∷ 0 ∷ (spelled amount ++ replicate 32 0)

-- a page whose content begins with a byte and is zero else
abbrev pub page_with : ℕ → ℕ → List ℕ
page_with lrc x = spelled lrc ++ (x ∷ replicate 251 0)

abbrev pub job_opens : Event
job_opens = calls (service opens)

abbrev pub fetch : ℕ → ℕ → Event
fetch j p = calls (service (fetches j p 256))

abbrev pub change : ℕ → ℕ → ℕ → List ℕ → Event
change j p lrc b = calls (service (records j p lrc b))

abbrev pub ship : ℕ → ℕ → List ℕ → Event
ship j p b = calls (service (ships j p b))

-- The runs

abbrev pub empty_log : Point Patch
empty_log = run_from_blank patch_meaning 2 16 restart

-- a log of 8 has room for three changes and what takes them back
abbrev pub three_changes : List Event
three_changes = restart ++ job_opens ∷ fetch 1 0 ∷ change 1 0 1 (patch_of 0 1 17) ∷ change 1 0 2 (patch_of 0 1 17)
    ∷ change 1 0 3 (patch_of 0 1 17) ∷ change 1 0 4 (patch_of 0 1 17) ∷ calls (service (aborts 1)) ∷ []

abbrev pub log_of_eight : Point Patch
log_of_eight = run_from_blank patch_meaning 2 8 three_changes

abbrev pub two_places : List Event
two_places = restart ++ job_opens ∷ fetch 1 0 ∷ change 1 0 1 (patch_of 220 32 255) ∷ change 1 0 2 (patch_of 221 32 255) ∷ []

abbrev pub last_places : Point Patch
last_places = run_from_blank patch_meaning 2 16 two_places

abbrev pub past_the_end : List Event
past_the_end = restart ++ job_opens ∷ fetch 1 0 ∷ change 1 0 1 (addition_of 0 3) ∷ ship 1 0 (page_with 1 3) ∷ calls (service (commits 1))
    ∷ job_opens ∷ fetch 4 0 ∷ change 4 0 2 (addition_of 0 4294967295) ∷ ship 4 0 (page_with 2 2) ∷ []

abbrev pub summed : Point Addition
summed = run_from_blank addition_meaning 2 16 past_the_end

abbrev pub and_back : List Event
and_back = past_the_end ++ calls (service (aborts 4)) ∷ []

abbrev pub sum_taken_back : Point Addition
sum_taken_back = run_from_blank addition_meaning 2 16 and_back

-- job 1 changes the byte and commits; job 4 changes it again and ships
abbrev pub two_jobs : List Event
two_jobs = restart ++ job_opens ∷ fetch 1 0 ∷ change 1 0 1 (patch_of 0 1 17) ∷ ship 1 0 (page_with 1 17) ∷ calls (service (commits 1))
    ∷ job_opens ∷ fetch 4 0 ∷ change 4 0 2 (patch_of 0 1 34) ∷ ship 4 0 (page_with 2 51) ∷ []

abbrev pub written_and_lost : List Event
written_and_lost = two_jobs ++ calls (service (writes_out 0)) ∷ restart

abbrev pub loser_written_out : Point Patch
loser_written_out = run_from_blank patch_meaning 2 16 written_and_lost

-- a look after that restart gives what job 1 committed
abbrev pub then_looked_at : List Event
then_looked_at = written_and_lost ++ calls (service (looks 0 256)) ∷ []

abbrev pub committed_seen : Point Patch
committed_seen = run_from_blank patch_meaning 2 16 then_looked_at

abbrev pub only_lost : List Event
only_lost = two_jobs ++ restart

abbrev pub loser_not_written : Point Patch
loser_not_written = run_from_blank patch_meaning 2 16 only_lost

-- undo's force loses power with one new slot standing; then a second restart
abbrev pub lost_again : List Event
lost_again = restart ++ job_opens ∷ fetch 1 0 ∷ change 1 0 1 (patch_of 0 1 17) ∷ change 1 0 2 (patch_of 0 1 34)
    ∷ ship 1 0 (page_with 2 51) ∷ calls (service (writes_out 0)) ∷ calls analysis ∷ calls redo
    ∷ record { call = undo; failure = record { countdown = 4; left = more 1; raise = λ i. 0 } } ∷ restart

abbrev pub power_lost_in_undo : Point Patch
power_lost_in_undo = run_from_blank patch_meaning 2 16 lost_again

-- the page of slot 2 is not shipped when the checkpoint in slots 3 to 6 is taken
abbrev pub not_yet_shipped : List Event
not_yet_shipped = restart ++ job_opens ∷ fetch 1 1 ∷ change 1 1 1 (patch_of 0 1 17) ∷ calls (service checkpoints)
    ∷ ship 1 1 (page_with 1 17) ∷ calls (service (commits 1)) ∷ restart

abbrev pub checkpoint_unshipped : Point Patch
checkpoint_unshipped = run_from_blank patch_meaning 2 16 not_yet_shipped

-- an answer of some numbers, and a refusal
abbrev pub yes_with : List ℕ → List ℕ
yes_with ns = 0 ∷ ns

abbrev pub refused_by : ℕ → List ℕ
refused_by n = n ∷ []

abbrev pub log_lost_at : ℕ → List ℕ
log_lost_at place = 17 ∷ 1 ∷ place ∷ []

-- the three passes answer
abbrev pub passes : ℕ → ℕ → ℕ → ℕ → ℕ → ℕ → ℕ → List (List ℕ)
passes begin losers pages start played compensations ends =
    yes_with (begin ∷ losers ∷ pages ∷ []) ∷ yes_with (start ∷ played ∷ []) ∷ yes_with (compensations ∷ ends ∷ []) ∷ []

-- what the runs come to
pub record ComeOut : Type 0 where
  pub empty : empty_log.answers ≡ passes 1 0 0 0 0 0 0
  pub fourth : slice_index_or log_of_eight.answers 8 [] ≡ refused_by 14
  pub filled : log_kinds log_of_eight ≡ 1 ∷ 2 ∷ 2 ∷ 2 ∷ 3 ∷ 3 ∷ 3 ∷ 5 ∷ []
  pub places : drop 5 last_places.answers ≡ yes_with [] ∷ refused_by 10 ∷ []
  pub sum : copy_in summed 0 ≡ (2, 2)
  pub taken_back : copy_in sum_taken_back 0 ≡ (3, 3)
  pub committed : slice_index_or loser_written_out.answers 7 [] ≡ yes_with (3 ∷ [])
  pub written : drop 13 loser_written_out.answers ≡ passes 1 1 1 2 0 1 1
  pub written_copy : copy_in loser_written_out 0 ≡ (3, 17)
  pub written_log : log_kinds loser_written_out ≡ 1 ∷ 2 ∷ 4 ∷ 1 ∷ 2 ∷ 3 ∷ 5 ∷ []
  pub seen : drop 16 committed_seen.answers ≡ yes_with (page_with 3 17) ∷ []
  pub unwritten : drop 12 loser_not_written.answers ≡ passes 1 1 1 2 1 0 1
  pub unwritten_copy : copy_in loser_not_written 0 ≡ (1, 17)
  pub unwritten_log : log_kinds loser_not_written ≡ 1 ∷ 2 ∷ 4 ∷ 1 ∷ 5 ∷ []
  pub cut : drop 11 power_lost_in_undo.answers ≡ log_lost_at 6 ∷ passes 1 1 1 2 1 1 1
  pub cut_log : log_kinds power_lost_in_undo ≡ 1 ∷ 2 ∷ 2 ∷ 3 ∷ 3 ∷ 5 ∷ []
  pub unshipped : drop 6 checkpoint_unshipped.answers ≡ yes_with (6 ∷ []) ∷ yes_with [] ∷ yes_with (7 ∷ []) ∷ passes 3 0 1 2 1 0 0

-- and each is a run
abbrev pub Reached : {C : Type 0} → Meaning C → Point C → Type 0
Reached m s = Reaches m s.ledger s.world

pub record RunsSo : Type 0 where
  pub empty : Reached patch_meaning empty_log
  pub eight : Reached patch_meaning log_of_eight
  pub places : Reached patch_meaning last_places
  pub sum : Reached addition_meaning summed
  pub taken_back : Reached addition_meaning sum_taken_back
  pub written : Reached patch_meaning loser_written_out
  pub seen : Reached patch_meaning committed_seen
  pub unwritten : Reached patch_meaning loser_not_written
  pub cut : Reached patch_meaning power_lost_in_undo
  pub unshipped : Reached patch_meaning checkpoint_unshipped

abbrev pub Worked : Type 0
Worked = ComeOut × RunsSo

-- for every state in which the forced count is at most the length, every call and every failure, the runner's outcome is one of the plan's
abbrev pub Possible : {C : Type 0} → Meaning C → Type 0
Possible m = (f : Failure) (c : Call) (w : World) → w.devices.log.forced ≤ length w.devices.log.slots
    → Does m (plan_of m c w) w (run m f (plan_of m c w) w).answer (run m f (plan_of m c w) w).world
