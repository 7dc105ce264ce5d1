-- The restart: analysis, redo and undo, each as its plan. Assumes nothing.
use Rattle.std.specs.Prelude.{ℕ, zero, suc, pred, min, Bool, true, false, cond, ◌&&◌, List, [], ◌∷◌, map, length, is_some, Some, None, Ok, Err, Option, Result, ◌==◌, nat_le, nat_lt, slice_set}
use Rattle.std.specs.Option.{unwrap_or, option_map}
use Rattle.format.specs.declared.page.Page.{Page}
use Rattle.format.specs.declared.slot.Slot.{Slot}
use Rattle.format.specs.declared.slot.Slot.TheVariants.{Record, Job, Checkpoint}
use Rattle.format.specs.declared.slot.PageRecord.{PageRecord}
use Rattle.format.specs.declared.slot.JobEvent.{JobEvent}
use Rattle.format.specs.declared.slot.JobEvent.TheVariants.{Open, Commit, End}
use Rattle.format.specs.declared.slot.CheckpointPart.{CheckpointPart}
use Rattle.format.specs.declared.slot.CheckpointPart.TheVariants.{Begin, DirtyPage, OpenJob, Complete}
use Rattle.format.specs.Changes.{Meaning}
use Rattle.format.specs.Pages.{page_of}
use Rattle.recovery_log.specs.Log.{Log, next_by}
use Rattle.rules.specs.declared.refusal.Refusal.{Refusal}
use Rattle.rules.specs.declared.refusal.Refusal.TheVariants.{SizesOutOfRange, NotTheNextPass, NoJobPlace, LrcOutOfOrder, LogFull, LogUnreadable, StoreAhead}
use Rattle.rules.specs.declared.table.JobEntry.{JobEntry}
use Rattle.rules.specs.Plans.{force, Plan, asks, insists, powers_on, performs}
use Rattle.rules.specs.Playing.{play}
use Rattle.rules.specs.Reading.{known, at, up_to, scan, then, last_end}
use Rattle.rules.specs.Service.{ready, copy_of, has_place, Work, with_slot, taken_back, change_of, appends}
use Rattle.rules.specs.State.{Devices, out, analysed, redone, serving, World, Found, Working, is_analysed, is_redone, found_in_memory, working, size, slots, log_length, sizes_legal}
use Rattle.rules.specs.Tables.{Jobs, Dirty, new_job, entered, is_job, with_next, without_job, find_page, with_dirty, least_start}

pub record Tables : Type 0 where
  pub jobs : Jobs
  pub dirty : Dirty

abbrev pub tables : Jobs → Dirty → Tables
tables jobs dirty = record { jobs = jobs; dirty = dirty }

-- Analysis: an entry of a checkpoint, and an event of a job

abbrev pub gather_part : CheckpointPart → Tables → Result Tables Refusal
gather_part Begin t = Err LogUnreadable
gather_part (DirtyPage p s) t = cond (is_some (find_page p t.dirty)) (Err LogUnreadable) (Ok (tables t.jobs (with_dirty p s t.dirty)))
gather_part (OpenJob j n) t =
    cond (has_place t.jobs) (cond (is_job j t.jobs) (Err LogUnreadable) (Ok (tables (entered (new_job j n) t.jobs) t.dirty))) (Err NoJobPlace)
gather_part (Complete b) t = Err LogUnreadable

abbrev pub analyse_event : JobEvent → ℕ → Tables → Result Tables Refusal
analyse_event Open j t = cond (has_place t.jobs) (Ok (tables (entered (new_job j 0) t.jobs) t.dirty)) (Err NoJobPlace)
analyse_event Commit j t = cond (is_job j t.jobs) (Ok (tables (without_job j t.jobs) t.dirty)) (Err LogUnreadable)
analyse_event End j t = cond (is_job j t.jobs) (Ok (tables (without_job j t.jobs) t.dirty)) (Err LogUnreadable)

-- where to begin, and the tables there
pub record Start : Type 0 where
  pub begin : ℕ
  pub found : Tables

module _ {C : Type 0} where
  -- only entries stand between a checkpoint's begin and its end
  abbrev pub gather : ℕ → Option (Slot C) → Tables → Result Tables Refusal
  gather n None t = Err LogUnreadable
  gather n (Some (Record r)) t = Err LogUnreadable
  gather n (Some (Job e j)) t = Err LogUnreadable
  gather n (Some (Checkpoint p)) t = gather_part p t

  -- a slot that is read on the way from the begin; those of the checkpoint itself count for nothing
  abbrev pub analyse : ℕ → Option (Slot C) → Tables → Result Tables Refusal
  analyse n None t = Err LogUnreadable
  analyse n (Some (Record r)) t =
      cond (is_job r.job t.jobs)
      (Ok (tables (with_next r.job (next_by r.action n r.link) t.jobs) (with_dirty r.page n t.dirty)))
      (Err LogUnreadable)
  analyse n (Some (Job e j)) t = analyse_event e j t
  analyse n (Some (Checkpoint p)) t = Ok t

  abbrev pub from_begin : Log C → ℕ → ℕ → Option (Slot C) → Result Start Refusal
  from_begin L e b None = Err LogUnreadable
  from_begin L e b (Some (Record r)) = Err LogUnreadable
  from_begin L e b (Some (Job v j)) = Err LogUnreadable
  from_begin L e b (Some (Checkpoint Begin)) =
      then (scan (suc b) gather (tables [] []) (up_to (pred e) L)) (λ t. Ok (record { begin = b; found = t }))
  from_begin L e b (Some (Checkpoint (DirtyPage p s))) = Err LogUnreadable
  from_begin L e b (Some (Checkpoint (OpenJob j n))) = Err LogUnreadable
  from_begin L e b (Some (Checkpoint (Complete a))) = Err LogUnreadable

  abbrev pub from_end : Log C → ℕ → Option (Slot C) → Result Start Refusal
  from_end L e None = Err LogUnreadable
  from_end L e (Some (Record r)) = Err LogUnreadable
  from_end L e (Some (Job v j)) = Err LogUnreadable
  from_end L e (Some (Checkpoint Begin)) = Err LogUnreadable
  from_end L e (Some (Checkpoint (DirtyPage p s))) = Err LogUnreadable
  from_end L e (Some (Checkpoint (OpenJob j n))) = Err LogUnreadable
  from_end L e (Some (Checkpoint (Complete b))) = from_begin L e b (at L b)

  -- the checkpoint whose end is slot e, or slot 1 with empty tables where e is 0
  abbrev pub start_at : Log C → ℕ → Result Start Refusal
  start_at L e = cond (e == 0) (Ok (record { begin = 1; found = tables [] [] })) (from_end L e (at L e))

  abbrev pub found_from : Log C → Start → Result Found Refusal
  found_from L s = then (scan s.begin analyse s.found L) (λ t. Ok (record { jobs = t.jobs; dirty = t.dirty; first = s.begin }))

  abbrev pub found_in : Log C → ℕ → Result Found Refusal
  found_in L e = then (start_at L e) (found_from L)

  abbrev pub analysed_plan : Result Found Refusal → Plan C (ℕ × ℕ × ℕ)
  analysed_plan (Err why) = performs [] (Err why) out
  analysed_plan (Ok f) = performs [] (Ok (f.first, length f.jobs, length f.dirty)) (analysed f)

-- Redo

pub record Replay : Type 0 where
  pub copies : List Page
  pub count : ℕ

-- a page is in the table and its start is not after this slot
abbrev pub is_due : ℕ → ℕ → Dirty → Bool
is_due p n dirty = unwrap_or (option_map (λ e. nat_le e.start n) (find_page p dirty)) false

-- 16: no stored page is ahead of the log
abbrev pub none_ahead : ℕ → List Page → Bool
none_ahead n [] = true
none_ahead n (c ∷ cs) = nat_le c.lrc n && none_ahead n cs

-- Undo

pub record Undoing (C : Type 0) : Type 0 where
  pub work : Work C
  pub jobs : Jobs
  pub compensations : ℕ
  pub ends : ℕ

pub record Undone (C : Type 0) : Type 0 where
  pub state : Undoing C
  pub why : Option Refusal

-- the job with the largest next, among equals the lowest
abbrev pub latest_of : JobEntry → Option JobEntry → JobEntry
latest_of x None = x
latest_of x (Some y) = cond (nat_le y.next x.next) x y

abbrev pub latest : Jobs → Option JobEntry
latest [] = None
latest (x ∷ xs) = Some (latest_of x (latest xs))

module _ {C : Type 0} (m : Meaning C) where
  abbrev pub whole : Devices → Log C
  whole d = known m (size d) 1 (slots d)

  abbrev pub analysis_plan : World → Plan C (ℕ × ℕ × ℕ)
  analysis_plan w = asks (sizes_legal w.devices) SizesOutOfRange
      (powers_on (λ d. analysed_plan (found_in (whole d) (last_end (slots d)))))

  -- Redo

  -- 11: a record's LRC is at most one above the copy's
  abbrev pub replay_record : Dirty → ℕ → PageRecord C → Page → Replay → Result Replay Refusal
  replay_record dirty n r copy s =
      cond (nat_le r.lrc (suc copy.lrc))
      (Ok (cond (is_due r.page n dirty && nat_lt copy.lrc r.lrc)
      (record { copies = slice_set s.copies r.page (play m r copy); count = suc s.count }) s))
      (Err LrcOutOfOrder)

  abbrev pub replay : Dirty → ℕ → Option (Slot C) → Replay → Result Replay Refusal
  replay dirty n None s = Err LogUnreadable
  replay dirty n (Some (Record r)) s = replay_record dirty n r (copy_of s.copies r.page) s
  replay dirty n (Some (Job e j)) s = Ok s
  replay dirty n (Some (Checkpoint p)) s = Ok s

  abbrev pub redone_plan : Found → ℕ → Result Replay Refusal → Plan C (ℕ × ℕ)
  redone_plan f from (Err why) = performs [] (Err why) out
  redone_plan f from (Ok s) = performs [] (Ok (from, s.count))
      (redone (record { copies = s.copies; jobs = f.jobs; first = cond (from == 0) f.first (min f.first from) }))

  -- from the smallest redo start on, which is at least 1; where no page is dirty no slot is read
  abbrev pub replayed : Devices → Dirty → List Page → Result Replay Refusal
  replayed d dirty copies = let from = least_start dirty in
      cond (from == 0) (Ok (record { copies = copies; count = 0 })) (scan from (replay dirty) (record { copies = copies; count = 0 }) (whole d))

  abbrev pub stored_pages : Devices → List Page
  stored_pages d = map page_of d.pages.pages

  abbrev pub redo_in : Devices → Found → Plan C (ℕ × ℕ)
  redo_in d f =
      insists (none_ahead (log_length d) (stored_pages d)) StoreAhead
      (redone_plan f (least_start f.dirty) (replayed d f.dirty (stored_pages d)))

  -- 2: redo is the server's next pass
  abbrev pub redo_plan : World → Plan C (ℕ × ℕ)
  redo_plan w = asks (is_analysed w.memory) NotTheNextPass (ready w.devices (redo_in w.devices (found_in_memory w.memory)))

  -- Undo

  abbrev pub goes_on : Undoing C → Undone C
  goes_on u = record { state = u; why = None }

  abbrev pub gives_up : Refusal → Undoing C → Undone C
  gives_up why u = record { state = u; why = Some why }

  -- one slot of the log is free
  abbrev pub has_slot : ℕ → Undoing C → Bool
  has_slot capacity u = nat_lt (length u.work.log) capacity

  abbrev pub ended : ℕ → Undoing C → Undoing C
  ended j u = record { work = with_slot (Job End j) u.work; jobs = without_job j u.jobs; compensations = u.compensations; ends = suc u.ends }

  abbrev pub then_undo : (Undoing C → Undone C) → Undone C → Undone C
  then_undo f (r) = cond (is_some r.why) r (f r.state)

  -- an end, if there is room for it
  abbrev pub end_job : ℕ → ℕ → Undoing C → Undone C
  end_job capacity j u = cond (has_slot capacity u) (goes_on (ended j u)) (gives_up LogFull u)

  -- the jobs that have nothing to take back, ascending
  abbrev pub end_idle : ℕ → Jobs → Undone C → Undone C
  end_idle capacity [] r = r
  end_idle capacity (x ∷ xs) r = end_idle capacity xs (cond (x.next == 0) (then_undo (end_job capacity x.job) r) r)

  abbrev pub compensated : JobEntry → PageRecord C → Undoing C → Undoing C
  compensated e r u = record { work = taken_back m r u.work; jobs = with_next e.job r.link u.jobs; compensations = suc u.compensations; ends = u.ends }

  -- the change is taken back, and the job ended where it was the oldest
  abbrev pub undo_change : ℕ → JobEntry → Undoing C → Option (PageRecord C) → Undone C
  undo_change capacity e u None = gives_up LogUnreadable u
  undo_change capacity e u (Some r) =
      cond (r.link == 0) (end_job capacity e.job (compensated e r u)) (goes_on (compensated e r u))

  abbrev pub undo_latest : ℕ → (Undoing C → Undone C) → Undoing C → Option JobEntry → Undone C
  undo_latest capacity rest u None = goes_on u
  undo_latest capacity rest u (Some e) =
      cond (has_slot capacity u) (then_undo rest (undo_change capacity e u (change_of e.job (at u.work.log e.next)))) (gives_up LogFull u)

  -- every turn but the last appends a slot, so the capacity bounds the turns
  abbrev pub undo_all : ℕ → ℕ → Undoing C → Undone C
  undo_all capacity zero u = goes_on u
  undo_all capacity (suc fuel) u = undo_latest capacity (undo_all capacity fuel) u (latest u.jobs)

  abbrev pub undone : Devices → Working → Undone C
  undone d x = let cap = d.log.capacity in
      then_undo (undo_all cap (suc cap)) (end_idle cap x.jobs
      (goes_on (record { work = record { log = whole d; copies = x.copies; appended = [] }; jobs = x.jobs; compensations = 0; ends = 0 })))

  abbrev pub undone_plan : Working → Undoing C → Option Refusal → Plan C (ℕ × ℕ)
  undone_plan x u (Some why) = performs (appends u.work.appended []) (Err why) out
  undone_plan x u None = performs (appends u.work.appended (force ∷ [])) (Ok (u.compensations, u.ends))
      (serving (record { copies = u.work.copies; jobs = u.jobs; first = x.first }))

  abbrev pub undo_in : Devices → Working → Plan C (ℕ × ℕ)
  undo_in d x = let e = undone d x in undone_plan x e.state e.why

  -- 2: undo is the server's next pass
  abbrev pub undo_plan : World → Plan C (ℕ × ℕ)
  undo_plan w = asks (is_redone w.memory) NotTheNextPass (ready w.devices (undo_in w.devices (working w.memory)))
