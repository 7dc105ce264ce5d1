-- A slot in 60 bytes: the nine kinds and the fields that each uses, when bytes fit, and what they are read as.
-- Assumes nothing.
use Rattle.std.specs.Prelude.{◌≡◌, ℕ, ◌^◌, ◌<◌, Bool, true, false, cond, not, ◌&&◌, ◌||◌, List, [], ◌∷◌, ◌++◌, length, take, drop, replicate, is_some, Some, Ok, Err, Option, Result, ◌==◌, nat_le, nat_lt, slice_index}
use Rattle.std.specs.List.{find}
use Rattle.std.specs.Option.{option_map, option_map_or, ok_or}
use Rattle.format.specs.declared.slot.Slot.{Slot}
use Rattle.format.specs.declared.slot.Slot.TheVariants.{Record, Job, Checkpoint}
use Rattle.format.specs.declared.slot.Action.{Action}
use Rattle.format.specs.declared.slot.Action.TheVariants.{Put, TakeBack}
use Rattle.format.specs.declared.slot.JobEvent.{JobEvent}
use Rattle.format.specs.declared.slot.JobEvent.TheVariants.{Open, Commit, End}
use Rattle.format.specs.declared.slot.CheckpointPart.{CheckpointPart}
use Rattle.format.specs.declared.slot.CheckpointPart.TheVariants.{Begin, DirtyPage, OpenJob, Complete}
use Rattle.format.specs.declared.slot.kind.SlotKind.{SlotKind}
use Rattle.format.specs.declared.slot.kind.SlotKind.TheVariants as kind
use Rattle.format.specs.declared.slot.fields.Fields.{Fields}
use Rattle.format.specs.declared.slot.fields.Uses.{Uses}
use Rattle.format.specs.declared.slot.Misfit.{Misfit}
use Rattle.format.specs.declared.slot.Misfit.TheVariants.{UnknownKind, UnusedNotZero, NotAChange, PageOutside, JobOutside, LrcZero, LinkOutside}
use Rattle.format.specs.Bytes.{number_at, spelled, all_zero}
use Rattle.format.specs.Changes.{Meaning}

-- Kinds

-- the number that stands for a kind in byte 0
abbrev pub kind_number : SlotKind → ℕ
kind_number kind.Open = 1
kind_number kind.Change = 2
kind_number kind.Compensation = 3
kind_number kind.Commit = 4
kind_number kind.End = 5
kind_number kind.CheckpointBegin = 6
kind_number kind.CheckpointPage = 7
kind_number kind.CheckpointJob = 8
kind_number kind.CheckpointEnd = 9

abbrev pub every_kind : List SlotKind
every_kind =
    kind.Open ∷ kind.Change ∷ kind.Compensation ∷ kind.Commit ∷ kind.End ∷
    kind.CheckpointBegin ∷ kind.CheckpointPage ∷ kind.CheckpointJob ∷ kind.CheckpointEnd ∷ []

-- the kind that a number stands for
abbrev pub kind_numbered : ℕ → Option SlotKind
kind_numbered n = find (λ k. n == kind_number k) every_kind

abbrev pub kind_of_action : Action → SlotKind
kind_of_action Put = kind.Change
kind_of_action TakeBack = kind.Compensation

abbrev pub kind_of_event : JobEvent → SlotKind
kind_of_event Open = kind.Open
kind_of_event Commit = kind.Commit
kind_of_event End = kind.End

abbrev pub kind_of_part : CheckpointPart → SlotKind
kind_of_part Begin = kind.CheckpointBegin
kind_of_part (DirtyPage p s) = kind.CheckpointPage
kind_of_part (OpenJob j n) = kind.CheckpointJob
kind_of_part (Complete b) = kind.CheckpointEnd

abbrev pub kind_of : {C : Type 0} → Slot C → SlotKind
kind_of (Record r) = kind_of_action r.action
kind_of (Job e j) = kind_of_event e
kind_of (Checkpoint p) = kind_of_part p

abbrev pub uses : Bool → Bool → Bool → Bool → Bool → Uses
uses p j l k c = record { page = p; job = j; lrc = l; link = k; change = c }

-- the fields that each kind uses: page, job, LRC, link, change
abbrev pub uses_of : SlotKind → Uses
uses_of kind.Open = uses false true false false false
uses_of kind.Change = uses true true true true true
uses_of kind.Compensation = uses true true true true true
uses_of kind.Commit = uses false true false false false
uses_of kind.End = uses false true false false false
uses_of kind.CheckpointBegin = uses false false false false false
uses_of kind.CheckpointPage = uses true false false true false
uses_of kind.CheckpointJob = uses false true false true false
uses_of kind.CheckpointEnd = uses false false false true false

-- Layout

-- kind in byte 0, page in byte 1, job at 4, LRC at 8, link at 12, change in bytes 16 to 55
abbrev pub fields_of : SlotKind → List ℕ → Fields
fields_of k b = record {
  kind = k;
  page = slice_index b 1;
  job = number_at b 4;
  lrc = number_at b 8;
  link = number_at b 12;
  change = take 40 (drop 16 b);
}

-- the bytes that no kind uses are zero: 2 and 3, and the four at 56
abbrev pub padding_zero : List ℕ → Bool
padding_zero b = slice_index b 2 == 0 && (slice_index b 3 == 0 && number_at b 56 == 0)

-- a byte is used by the kind (0), the page (1), the job (4 to 7), the LRC (8 to 11), the link (12 to 15) or the change (16 to 55)
abbrev pub uses_byte : Uses → ℕ → Bool
uses_byte u i =
    (i == 0) || ((u.page && i == 1) || ((u.job && (nat_le 4 i && nat_le i 7)) || ((u.lrc && (nat_le 8 i && nat_le i 11))
    || ((u.link && (nat_le 12 i && nat_le i 15)) || (u.change && (nat_le 16 i && nat_le i 55))))))

abbrev pub kind_uses_byte : SlotKind → ℕ → Bool
kind_uses_byte k i = uses_byte (uses_of k) i

abbrev pub laid_out : Fields → List ℕ
laid_out f =
    kind_number f.kind ∷ f.page ∷ 0 ∷ 0 ∷
    (spelled f.job ++ (spelled f.lrc ++ (spelled f.link ++ (f.change ++ 0 ∷ 0 ∷ 0 ∷ 0 ∷ []))))

-- the fields have the widths of their places
pub record Sized (f : Fields) : Type 0 where
  pub job : f.job < 2 ^ 32
  pub lrc : f.lrc < 2 ^ 32
  pub link : f.link < 2 ^ 32
  pub change : length f.change ≡ 40

-- When bytes fit

-- every field that the kind does not use is zero
abbrev pub unused_zero : Uses → Fields → Bool
unused_zero u f =
    (u.page || f.page == 0) && ((u.job || f.job == 0) && ((u.lrc || f.lrc == 0)
    && ((u.link || f.link == 0) && (u.change || all_zero f.change))))

-- a page is below the store's size
abbrev pub page_fits : ℕ → Uses → Fields → Bool
page_fits size u f = not u.page || nat_lt f.page size

-- a job is from 1 to the slot's own number; an open's is its own number
abbrev pub job_ends : SlotKind → ℕ → ℕ → Bool
job_ends kind.Open j n = j == n
job_ends _ j n = nat_le j n

abbrev pub job_fits : ℕ → Uses → Fields → Bool
job_fits n u f = not u.job || (nat_le 1 f.job && job_ends f.kind f.job n)

-- an LRC is at least 1
abbrev pub lrc_fits : Uses → Fields → Bool
lrc_fits u f = not u.lrc || nat_le 1 f.lrc

-- a link is below the slot's own number and, in a checkpoint's page and end, at least 1
abbrev pub least_link : SlotKind → ℕ
least_link kind.CheckpointPage = 1
least_link kind.CheckpointEnd = 1
least_link _ = 0

abbrev pub link_fits : ℕ → Uses → Fields → Bool
link_fits n u f = not u.link || (nat_le (least_link f.kind) f.link && nat_lt f.link n)

-- a change is one of the given kind of change
abbrev pub change_fits : {C : Type 0} → Meaning C → Uses → Fields → Bool
change_fits m u f = not u.change || is_some (m.reads f.change)

abbrev pub in_range : ℕ → ℕ → Fields → Bool
in_range size n f =
    let u = uses_of f.kind in
    page_fits size u f && (job_fits n u f && (lrc_fits u f && link_fits n u f))

abbrev pub fits_as : {C : Type 0} → Meaning C → ℕ → ℕ → List ℕ → SlotKind → Bool
fits_as m size n b k =
    let f = fields_of k b in
    padding_zero b && (unused_zero (uses_of k) f && (in_range size n f && change_fits m (uses_of k) f))

-- 60 bytes fit as slot n of a log over size pages
abbrev pub fits : {C : Type 0} → Meaning C → ℕ → ℕ → List ℕ → Bool
fits m size n b = option_map_or (fits_as m size n b) (kind_numbered (slice_index b 0)) false

-- Slots and their fields

abbrev pub record_of : {C : Type 0} → Action → Fields → C → Slot C
record_of a f c = Record (record { action = a; page = f.page; job = f.job; lrc = f.lrc; link = f.link; change = c })

abbrev pub record_from : {C : Type 0} → Meaning C → Action → Fields → Option (Slot C)
record_from m a f = option_map (record_of a f) (m.reads f.change)

-- the slot that the fields give under a kind, where the change is one
abbrev pub slot_by : {C : Type 0} → Meaning C → Fields → SlotKind → Option (Slot C)
slot_by m f kind.Open = Some (Job Open f.job)
slot_by m f kind.Change = record_from m Put f
slot_by m f kind.Compensation = record_from m TakeBack f
slot_by m f kind.Commit = Some (Job Commit f.job)
slot_by m f kind.End = Some (Job End f.job)
slot_by m f kind.CheckpointBegin = Some (Checkpoint Begin)
slot_by m f kind.CheckpointPage = Some (Checkpoint (DirtyPage f.page f.link))
slot_by m f kind.CheckpointJob = Some (Checkpoint (OpenJob f.job f.link))
slot_by m f kind.CheckpointEnd = Some (Checkpoint (Complete f.link))

abbrev pub slot_of : {C : Type 0} → Meaning C → Fields → Option (Slot C)
slot_of m f = slot_by m f f.kind

abbrev pub fields : SlotKind → ℕ → ℕ → ℕ → ℕ → List ℕ → Fields
fields k p j l x c = record { kind = k; page = p; job = j; lrc = l; link = x; change = c }

abbrev pub no_change : List ℕ
no_change = replicate 40 0

abbrev pub part_fields : CheckpointPart → Fields
part_fields Begin = fields kind.CheckpointBegin 0 0 0 0 no_change
part_fields (DirtyPage p s) = fields kind.CheckpointPage p 0 0 s no_change
part_fields (OpenJob j x) = fields kind.CheckpointJob 0 j 0 x no_change
part_fields (Complete b) = fields kind.CheckpointEnd 0 0 0 b no_change

-- the fields of a slot, zero where it has none
abbrev pub slot_fields : {C : Type 0} → Meaning C → Slot C → Fields
slot_fields m (Record r) = fields (kind_of_action r.action) r.page r.job r.lrc r.link (m.bytes r.change)
slot_fields m (Job e j) = fields (kind_of_event e) 0 j 0 0 no_change
slot_fields m (Checkpoint p) = part_fields p

-- a slot's fields that its kind uses
abbrev pub only_used : Fields → Fields
only_used f =
    let u = uses_of f.kind in
    record {
      kind = f.kind;
      page = cond u.page f.page 0;
      job = cond u.job f.job 0;
      lrc = cond u.lrc f.lrc 0;
      link = cond u.link f.link 0;
      change = cond u.change f.change no_change;
    }

-- the 60 bytes of a slot
abbrev pub slot_bytes : {C : Type 0} → Meaning C → Slot C → List ℕ
slot_bytes m s = laid_out (only_used (slot_fields m s))

-- a slot may stand as slot n of a log over size pages
abbrev pub slot_fits : {C : Type 0} → Meaning C → ℕ → ℕ → Slot C → Bool
slot_fits m size n s = in_range size n (slot_fields m s)

-- Reading

infixl 10 ◌>>=◌
abbrev pub ◌>>=◌ : {A B E : Type 0} → Result A E → (A → Result B E) → Result B E
Ok x >>= f = f x
Err e >>= f = Err e

-- a question about bytes: where it is answered no, that is what is wrong with them
abbrev pub asked : Bool → Misfit → Result (Unit {0}) Misfit
asked ok why = cond ok (Ok tt) (Err why)

-- the fields of 60 bytes whose kind is known, where the bytes that no kind uses are zero
abbrev pub read_fields : List ℕ → Result Fields Misfit
read_fields b = do
  k ← ok_or (kind_numbered (slice_index b 0)) (UnknownKind (slice_index b 0))
  _ ← asked (padding_zero b) UnusedNotZero
  Ok (fields_of k b)

-- the questions about the fields, in the order in which they are asked
abbrev pub checked : ℕ → ℕ → Fields → Result (Unit {0}) Misfit
checked size n f = do
  let u = uses_of f.kind
  _ ← asked (unused_zero u f) UnusedNotZero
  _ ← asked (page_fits size u f) (PageOutside f.page)
  _ ← asked (job_fits n u f) (JobOutside f.job)
  _ ← asked (lrc_fits u f) LrcZero
  asked (link_fits n u f) (LinkOutside f.link)

-- the slot that 60 bytes are, or the first thing by which they do not fit
abbrev pub read_slot : {C : Type 0} → Meaning C → ℕ → ℕ → List ℕ → Result (Slot C) Misfit
read_slot m size n b = do
  f ← read_fields b
  _ ← checked size n f
  ok_or (slot_of m f) NotAChange
