-- The calls in service, each as its plan: its questions in order, then its operations, its answer and what the server holds after.
-- Assumes nothing.
use Rattle.std.specs.Prelude.{ℕ, zero, suc, ◌+◌, ◌%◌, ◌^◌, Bool, true, false, cond, not, ◌&&◌, ◌||◌, List, [], ◌∷◌, ◌++◌, map, length, is_some, Some, None, Ok, Err, Option, Result, ◌==◌, nat_le, nat_lt, slice_index_or, slice_set}
use Rattle.std.specs.Str.{bytes_eq}
use Rattle.format.specs.declared.page.Page.{Page}
use Rattle.format.specs.declared.slot.Slot.{Slot}
use Rattle.format.specs.declared.slot.Slot.TheVariants.{Record, Job, Checkpoint}
use Rattle.format.specs.declared.slot.PageRecord.{PageRecord}
use Rattle.format.specs.declared.slot.Action.{Action}
use Rattle.format.specs.declared.slot.Action.TheVariants.{Put, TakeBack}
use Rattle.format.specs.declared.slot.JobEvent.TheVariants.{Open, Commit, End}
use Rattle.format.specs.declared.slot.CheckpointPart.TheVariants.{Begin, DirtyPage, OpenJob, Complete}
use Rattle.format.specs.Bytes.{number_at}
use Rattle.format.specs.Changes.{Meaning}
use Rattle.format.specs.Pages.{page_bytes, page_of, blank_page}
use Rattle.recovery_log.specs.Log.{Log}
use Rattle.rules.specs.declared.refusal.Refusal.{Refusal}
use Rattle.rules.specs.declared.refusal.Refusal.TheVariants.{NotInService, NoJobPlace, JobNotOpen, PageOutside, BufferSize, NotHeld, HeldAlready, NotAChange, LrcOutOfOrder, ImageDiffers, CopyIncomplete, LogFull, LogUnreadable, PowerLost}
use Rattle.rules.specs.declared.refusal.Device.TheVariants as device
use Rattle.rules.specs.Plans.{Op, append, force, write, Plan, asks, insists, performs}
use Rattle.rules.specs.Playing.{play, played, of_page, up_to_lrc, first_lacked, lacks, last_lrc}
use Rattle.rules.specs.Reading.{known, at}
use Rattle.rules.specs.State.{Devices, Memory, out, serving, World, Working, is_serving, working, size, slots, log_length, next_slot, free}
use Rattle.rules.specs.Tables.{Jobs, new_job, entered, is_job, next_of, with_next, without_job, with_hold, held_by, held_by_another, is_held, owed}

-- What the calls share

-- What is asked in every stage but the first, right after the question of the stage: that both devices have power. No server finds it otherwise.
abbrev pub ready : {C A : Type 0} → Devices → Plan C A → Plan C A
ready d p = insists d.pages.powered (PowerLost device.Pages 0)
    (insists d.log.powered (PowerLost device.Log 0) p)

-- 3: the server is in service
abbrev pub in_service : {C A : Type 0} → World → (Working → Plan C A) → Plan C A
in_service w f = asks (is_serving w.memory) NotInService (ready w.devices (f (working w.memory)))

-- the copy of a page; there are as many copies as pages, and beyond them a page is blank
abbrev pub copy_of : List Page → ℕ → Page
copy_of copies p = slice_index_or copies p blank_page

-- what a buffer holds after a call that fills it: a refusal leaves it as it was
abbrev pub buffer_after : Result (List ℕ) Refusal → List ℕ → List ℕ
buffer_after (Ok bytes) before = bytes
buffer_after (Err why) before = before

abbrev pub with_jobs : Working → Jobs → Memory
with_jobs s jobs = serving (record { copies = s.copies; jobs = jobs; first = s.first })

abbrev pub with_copy : Working → ℕ → Page → Memory
with_copy s p page = serving (record { copies = slice_set s.copies p page; jobs = s.jobs; first = s.first })

-- a test of each page that a job holds
abbrev pub each_held : (ℕ → Bool) → List Bool → Bool
each_held ok [] = true
each_held ok (h ∷ hs) = (not h || ok 0) && each_held (λ p. ok (suc p)) hs

-- the copies of the pages that a job holds, changed
abbrev pub at_held : (ℕ → Page → Page) → List Bool → List Page → List Page
at_held f [] cs = cs
at_held f (h ∷ hs) [] = []
at_held f (h ∷ hs) (c ∷ cs) = cond h (f 0 c) c ∷ at_held (λ p. f (suc p)) hs cs

abbrev pub holds_of : ℕ → Jobs → List Bool
holds_of j [] = []
holds_of j (x ∷ xs) = cond (x.job == j) x.holds (holds_of j xs)

-- Taking changes back

-- the log with what is appended, the copies, and the slots to append, the newest first
pub record Work (C : Type 0) : Type 0 where
  pub log : Log C
  pub copies : List Page
  pub appended : List (Slot C)

-- what was done, and why it went no further
pub record Stopped (C : Type 0) : Type 0 where
  pub work : Work C
  pub why : Option Refusal

-- the LRC after an LRC, in four bytes
abbrev pub lrc_after : ℕ → ℕ
lrc_after lrc = (lrc + 1) % 2 ^ 32

abbrev pub puts : Action → Bool
puts Put = true
puts TakeBack = false

module _ {C : Type 0} where
  -- the change in a slot, if it is one of the job
  abbrev pub change_of : ℕ → Option (Slot C) → Option (PageRecord C)
  change_of j None = None
  change_of j (Some (Record r)) = cond (puts r.action && r.job == j) (Some r) None
  change_of j (Some (Job e k)) = None
  change_of j (Some (Checkpoint p)) = None

  -- it takes back what its job's next put, and the job's next becomes that change's link
  abbrev pub compensation : PageRecord C → Page → PageRecord C
  compensation r copy = record { action = TakeBack; page = r.page; job = r.job; lrc = lrc_after copy.lrc; link = r.link; change = r.change }

  abbrev pub with_slot : Slot C → Work C → Work C
  with_slot s k = record { log = Some s ∷ k.log; copies = k.copies; appended = s ∷ k.appended }

  abbrev pub finished : Work C → Stopped C
  finished k = record { work = k; why = None }

  abbrev pub stopped : Refusal → Work C → Stopped C
  stopped why k = record { work = k; why = Some why }

  -- slots to append, the newest first, before other operations
  abbrev pub appends : List (Slot C) → List (Op C) → List (Op C)
  appends [] ops = ops
  appends (s ∷ ss) ops = appends ss (append s ∷ ops)

-- Questions

-- 4: one of eight job places is free
abbrev pub has_place : Jobs → Bool
has_place jobs = nat_lt (length jobs) 8

-- 6: the page is in the store
abbrev pub in_store : Devices → ℕ → Bool
in_store d p = nat_lt p (size d)

-- 7: a buffer of that length holds a page
abbrev pub holds_a_page : ℕ → Bool
holds_a_page length = length == 256

module _ {C : Type 0} (m : Meaning C) where
  -- the log that the server goes by in service: from the first slot read whole on
  abbrev pub log_read : Devices → Working → Log C
  log_read d s = known m (size d) s.first (slots d)

  -- a page's last LRC
  abbrev pub last_of : Devices → Working → ℕ → ℕ
  last_of d s p = last_lrc p (copy_of s.copies p).lrc (log_read d s)

  -- 11: the LRC of a record is one above the page's last
  abbrev pub follows_last : Devices → Working → ℕ → ℕ → Bool
  follows_last d s p lrc = lrc == suc (last_of d s p)

  -- 11: the LRC of an image is from the copy's to the page's last
  abbrev pub up_to_last : Devices → Working → ℕ → ℕ → Bool
  up_to_last d s p lrc = nat_le (copy_of s.copies p).lrc lrc && nat_le lrc (last_of d s p)

  -- 12: the missing records, played on the copy up to the image's LRC, give the image
  abbrev pub gives_image : Devices → Working → ℕ → List ℕ → Bool
  gives_image d s p image = bytes_eq (page_bytes (played m (up_to_lrc p (number_at image 0)) (log_read d s) (copy_of s.copies p))) image

  -- 14: enough of the log is free for what is owed and for n slots more
  abbrev pub has_room : Devices → Working → ℕ → Bool
  has_room d s n = nat_le (owed (log_read d s) s.jobs + n) (free d)

  -- Each call by its plan in service, which goes by the devices and by what the server works with

  -- Open, fetch, record

  abbrev pub open_in : Devices → Working → Plan C ℕ
  open_in d s =
      asks (has_place s.jobs) NoJobPlace
      (asks (has_room d s 2) LogFull
      (performs (append (Job Open (next_slot d)) ∷ force ∷ []) (Ok (next_slot d)) (with_jobs s (entered (new_job (next_slot d) 0) s.jobs))))

  abbrev pub fetch_in : ℕ → ℕ → ℕ → Devices → Working → Plan C (List ℕ)
  fetch_in j p buffer d s =
      asks (is_job j s.jobs) JobNotOpen
      (asks (in_store d p) PageOutside
      (asks (holds_a_page buffer) BufferSize
      (asks (not (held_by_another j p s.jobs)) HeldAlready
      (performs [] (Ok (page_bytes (copy_of s.copies p))) (with_jobs s (with_hold j p s.jobs))))))

  -- the change as it is appended
  abbrev pub change_for : ℕ → ℕ → ℕ → Working → C → PageRecord C
  change_for j p lrc s c = record { action = Put; page = p; job = j; lrc = lrc; link = next_of j s.jobs; change = c }

  -- (there is a change: that was asked)
  abbrev pub recorded : ℕ → ℕ → ℕ → Devices → Working → Option C → Plan C (Unit {0})
  recorded j p lrc d s None = performs [] (Err NotAChange) (serving s)
  recorded j p lrc d s (Some c) = performs (append (Record (change_for j p lrc s c)) ∷ []) (Ok tt) (with_jobs s (with_next j (next_slot d) s.jobs))

  abbrev pub record_in : ℕ → ℕ → ℕ → List ℕ → Devices → Working → Plan C (Unit {0})
  record_in j p lrc bytes d s =
      asks (is_job j s.jobs) JobNotOpen
      (asks (in_store d p) PageOutside
      (asks (held_by j p s.jobs) NotHeld
      (asks (is_some (m.reads bytes)) NotAChange
      (asks (follows_last d s p lrc) LrcOutOfOrder
      (asks (has_room d s 2) LogFull
      (recorded j p lrc d s (m.reads bytes)))))))

  -- Ship, write-out, look

  abbrev pub ship_in : ℕ → ℕ → List ℕ → Devices → Working → Plan C (Unit {0})
  ship_in j p image d s =
      asks (is_job j s.jobs) JobNotOpen
      (asks (in_store d p) PageOutside
      (asks (holds_a_page (length image)) BufferSize
      (asks (held_by j p s.jobs) NotHeld
      (asks (up_to_last d s p (number_at image 0)) LrcOutOfOrder
      (asks (gives_image d s p image) ImageDiffers
      (performs [] (Ok tt) (with_copy s p (page_of image))))))))

  abbrev pub write_out_in : ℕ → Devices → Working → Plan C (Unit {0})
  write_out_in p d s =
      asks (in_store d p) PageOutside
      (performs (force ∷ write p (copy_of s.copies p) ∷ []) (Ok tt) (serving s))

  abbrev pub look_in : ℕ → ℕ → Devices → Working → Plan C (List ℕ)
  look_in p buffer d s =
      asks (in_store d p) PageOutside
      (asks (holds_a_page buffer) BufferSize
      (asks (not (is_held p s.jobs)) HeldAlready
      (performs [] (Ok (page_bytes (copy_of s.copies p))) (serving s))))

  -- Commit

  -- 13: the copy of every held page is complete
  abbrev pub held_complete : Devices → Working → ℕ → Bool
  held_complete d s j = each_held (λ p. not (lacks p (copy_of s.copies p).lrc (log_read d s))) (holds_of j s.jobs)

  abbrev pub commit_in : ℕ → Devices → Working → Plan C ℕ
  commit_in j d s =
      asks (is_job j s.jobs) JobNotOpen
      (asks (held_complete d s j) CopyIncomplete
      (performs (append (Job Commit j) ∷ force ∷ []) (Ok (next_slot d)) (with_jobs s (without_job j s.jobs))))

  -- the compensation of a change is appended and played
  abbrev pub taken_back : PageRecord C → Work C → Work C
  taken_back r k = let c = compensation r (copy_of k.copies r.page) in
      record { log = Some (Record c) ∷ k.log; copies = slice_set k.copies r.page (play m c (copy_of k.copies r.page)); appended = Record c ∷ k.appended }

  -- Abort

  abbrev pub then_back : (ℕ → Work C → Stopped C) → Work C → Option (PageRecord C) → Stopped C
  then_back rest k None = stopped LogUnreadable k
  then_back rest k (Some r) = rest r.link (taken_back r k)

  -- from the change in slot n on, the newest first; numbers fall, so there are at most `fuel`
  abbrev pub all_back : ℕ → ℕ → ℕ → Work C → Stopped C
  all_back zero j n k = finished k
  all_back (suc fuel) j n k = cond (n == 0) (finished k) (then_back (all_back fuel j) k (change_of j (at k.log n)))

  abbrev pub aborted : Working → ℕ → Work C → Option Refusal → Plan C (Unit {0})
  aborted s j k (Some why) = performs (appends k.appended []) (Err why) out
  aborted s j k None = performs (appends (Job End j ∷ k.appended) []) (Ok tt)
      (serving (record { copies = k.copies; jobs = without_job j s.jobs; first = s.first }))

  abbrev pub completed : Devices → Working → ℕ → List Page
  completed d s j = at_held (λ p c. played m (of_page p) (log_read d s) c) (holds_of j s.jobs) s.copies

  abbrev pub abort_in : ℕ → Devices → Working → Plan C (Unit {0})
  abort_in j d s = let n = next_of j s.jobs in
      let e = all_back n j n (record { log = log_read d s; copies = completed d s j; appended = [] }) in
      asks (is_job j s.jobs) JobNotOpen (aborted s j e.work e.why)

  -- Checkpoint

  abbrev pub page_entry : ℕ → Option ℕ → List (Slot C)
  page_entry p None = []
  page_entry p (Some start) = Checkpoint (DirtyPage p start) ∷ []

  -- an entry for each stored page that lacks a record, with the first that it lacks
  abbrev pub page_entries : Log C → ℕ → List (List ℕ) → List (Slot C)
  page_entries L p [] = []
  page_entries L p (b ∷ bs) = page_entry p (first_lacked p (number_at b 0) L) ++ page_entries L (suc p) bs

  abbrev pub job_entries : Jobs → List (Slot C)
  job_entries [] = []
  job_entries (x ∷ xs) = Checkpoint (OpenJob x.job x.next) ∷ job_entries xs

  abbrev pub checkpoint_slots : Devices → Working → List (Slot C)
  checkpoint_slots d s = Checkpoint Begin ∷ (page_entries (log_read d s) 0 d.pages.pages
      ++ (job_entries s.jobs ++ Checkpoint (Complete (next_slot d)) ∷ []))

  abbrev pub checkpoint_in : Devices → Working → Plan C ℕ
  checkpoint_in d s = let ss = checkpoint_slots d s in
      asks (has_room d s (length ss)) LogFull
      (performs (map append ss ++ force ∷ []) (Ok (log_length d + length ss)) (serving s))
