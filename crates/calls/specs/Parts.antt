-- Parts of the plans of ship and checkpoint. Assumes nothing.
use Rattle.std.specs.Prelude.{ℕ, suc, List, [], ◌∷◌, ◌++◌, Option, Ok}
use Rattle.format.specs.declared.slot.Slot.{Slot}
use Rattle.format.specs.declared.slot.Slot.TheVariants.{Checkpoint}
use Rattle.format.specs.declared.slot.CheckpointPart.TheVariants.{Begin, Complete}
use Rattle.format.specs.Bytes.{number_at}
use Rattle.format.specs.Changes.{Meaning}
use Rattle.format.specs.Pages.{page_of}
use Rattle.rules.specs.declared.refusal.Refusal.TheVariants.{LrcOutOfOrder, ImageDiffers}
use Rattle.rules.specs.Plans.{Plan, asks, performs}
use Rattle.rules.specs.Service.{up_to_last, gives_image, with_copy, page_entry, job_entries}
use Rattle.rules.specs.State.{Devices, Working}
use Rattle.rules.specs.Tables.{Jobs}

-- what ship asks of the image, and the end of its plan
abbrev pub image_in : {C : Type 0} → Meaning C → ℕ → List ℕ → Devices → Working → Plan C (Unit {0})
image_in m p image d s =
    asks (up_to_last m d s p (number_at image 0)) LrcOutOfOrder
    (asks (gives_image m d s p image) ImageDiffers
    (performs [] (Ok tt) (with_copy s p (page_of image))))

-- the entries of a checkpoint for the pages from p on that lack a record, given the first that each lacks
abbrev pub entries_of : {C : Type 0} → Meaning C → ℕ → List (Option ℕ) → List (Slot C)
entries_of m p [] = []
entries_of m p (first ∷ firsts) = page_entry m p first ++ entries_of m (suc p) firsts

-- all its slots, from slot `begin` on
abbrev pub slots_of : {C : Type 0} → Meaning C → ℕ → List (Option ℕ) → Jobs → List (Slot C)
slots_of m begin firsts jobs = Checkpoint Begin ∷ (entries_of m 0 firsts ++ (job_entries m jobs ++ Checkpoint (Complete begin) ∷ []))
