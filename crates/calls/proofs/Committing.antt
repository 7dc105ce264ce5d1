-- What the copies of held pages lack, told by the highest LRC of each page's records. Assumes nothing.
use Rattle.std.proofs.Common.{◌≡◌, ℕ, zero, suc, max, ◌<◌, Bool, true, false, cond, not, ◌&&◌, ◌||◌, ltb, List, [], ◌∷◌, length, is_some, Some, None, Option, replicate, slice_index_or, refl, sym, ap, subst, ◌∙◌, arith}
use Rattle.std.proofs.lemmas.Bool.Decides.{nat_tests}
use Rattle.std.proofs.Math.Bool.{and-false}
use Rattle.format.specs.declared.page.Page.{Page}
use Rattle.format.specs.declared.slot.Slot.TheVariants.{Record, Job, Checkpoint}
use Rattle.format.specs.Changes.{Meaning}
use Rattle.recovery_log.specs.Log.{Log, new_number}
use Rattle.rules.specs.declared.table.JobEntry.{JobEntry}
use Rattle.rules.specs.Playing.{or_else, lacks, first_lacked}
use Rattle.rules.specs.Service.{copy_of, each_held, holds_of, log_read, held_complete}
use Rattle.rules.specs.State.{Devices, World, Working, working}
use Rattle.rules.specs.Tables.{Jobs, Dirty, find_job}
use Rattle.calls.specs.declared.state.Stage.{Stage}
use Rattle.calls.specs.declared.state.Stage.TheVariants.{Serving}
use Rattle.calls.specs.Memories.{memory_of}
use Rattle.calls.specs.Outcomes.{Ready}
use Rattle.calls.specs.Readers.{highest_lrc}
use Rattle.calls.proofs.Serving.{working_of}
use Rattle.calls.proofs.Stages.{opened}

-- one record more
lacks_more : (x : Option ℕ) (b : Bool) (n h l k : ℕ) → is_some x ≡ ltb k h → is_some (or_else x (cond (b && ltb k l) (Some n) None)) ≡ ltb k (cond b (max l h) h)
lacks_more None true n h l k e = grind (arith, nat_tests)
lacks_more None false n h l k e = e
lacks_more (Some x) true n h l k e = grind (arith, nat_tests)
lacks_more (Some x) false n h l k e = e

-- a copy lacks a record exactly where it is below the highest
lacks_below : {C : Type 0} (p k : ℕ) (L : Log C) → lacks p k L ≡ ltb k (highest_lrc p L)
lacks_below p k [] = grind (arith, nat_tests)
lacks_below p k (None ∷ L) = lacks_below p k L
lacks_below p k (Some (Record r) ∷ L) = lacks_more (first_lacked p k L) _ (new_number L) (highest_lrc p L) r.lrc k (lacks_below p k L)
lacks_below p k (Some (Job e j) ∷ L) = lacks_below p k L
lacks_below p k (Some (Checkpoint c) ∷ L) = lacks_below p k L

-- Pages that are held, one by one

-- the copy has come that far
abbrev pub reaches : List Page → List ℕ → ℕ → Bool
reaches copies highest p = not (ltb (copy_of copies p).lrc (slice_index_or highest p 0))

abbrev pub passes : (ℕ → Bool) → List Bool → ℕ → Bool
passes ok hs p = not (slice_index_or hs p false) || ok p

pub all_pass : (ok : ℕ → Bool) (hs : List Bool) → ((p : ℕ) → p < length hs → passes ok hs p ≡ true) → each_held ok hs ≡ true
all_pass ok [] h = refl
all_pass ok (x ∷ hs) h = rw (h 0 (omega arith)) (all_pass (λ p. ok (suc p)) hs (λ p lt. h (suc p) (omega arith)))

pub one_fails : (ok : ℕ → Bool) (hs : List Bool) (p : ℕ) → p < length hs → passes ok hs p ≡ false → each_held ok hs ≡ false
one_fails ok [] p lt e = absurd (omega arith)
one_fails ok (x ∷ hs) zero lt e = rw e refl
one_fails ok (x ∷ hs) (suc p) lt e = rw (one_fails (λ p. ok (suc p)) hs p (omega arith) e) (and-false (not x || ok 0))

same_held : (f g : ℕ → Bool) (hs : List Bool) → ((p : ℕ) → f p ≡ g p) → each_held f hs ≡ each_held g hs
same_held f g [] h = refl
same_held f g (x ∷ hs) h = rw (h 0, same_held (λ p. f (suc p)) (λ p. g (suc p)) hs (λ p. h (suc p))) refl

-- The holds of a job by its entry

abbrev pub holds_in : Option JobEntry → List Bool
holds_in None = []
holds_in (Some e) = e.holds

pub holds_found : (j : ℕ) (jobs : Jobs) → holds_of j jobs ≡ holds_in (find_job j jobs)
holds_found j [] = refl
holds_found j (x ∷ xs) = here _ (holds_of j xs) (find_job j xs) (holds_found j xs)
  where
    here : (b : Bool) (hs : List Bool) (o : Option JobEntry) → hs ≡ holds_in o → cond b x.holds hs ≡ holds_in (cond b (Some x) o)
    here true hs o e = refl
    here false hs o e = e

-- What the highest LRCs say of a job

-- of no log they are zeros
pub none_yet : (n p : ℕ) → ◌≡◌ {A = ℕ} (slice_index_or (replicate n 0) p 0) 0
none_yet zero p = refl
none_yet (suc n) zero = refl
none_yet (suc n) (suc p) = none_yet n p

held_told : {C : Type 0} (m : Meaning C) (d : Devices) (s : Working) (j : ℕ) (highest : List ℕ) (o : Option JobEntry) → o ≡ find_job j s.jobs
    → ((p : ℕ) → slice_index_or highest p 0 ≡ highest_lrc p (log_read m d s)) → each_held (reaches s.copies highest) (holds_in o) ≡ held_complete m d s j
held_told m d s j highest o found h = ap (each_held (reaches s.copies highest)) (ap holds_in found ∙ sym (holds_found j s.jobs))
    ∙ same_held _ _ (holds_of j s.jobs) (λ p. ap (λ n. not (ltb (copy_of s.copies p).lrc n)) (h p) ∙ ap not (sym (lacks_below p (copy_of s.copies p).lrc (log_read m d s))))

-- in service
pub complete_told : {C : Type 0} (m : Meaning C) (d : Devices) (stage : Stage) (jobs : Jobs) (dirty : Dirty) (copies : List Page) (first : ℕ) {w : World}
    → record { devices = d; memory = memory_of stage jobs dirty copies first } ≡ w → Ready m w → (j : ℕ) (highest : List ℕ) (o : Option JobEntry) → o ≡ find_job j jobs
    → ((p : ℕ) → slice_index_or highest p 0 ≡ highest_lrc p (log_read m w.devices (working w.memory)))
    → each_held (reaches copies highest) (holds_in o) ≡ held_complete m w.devices (working w.memory) j
complete_told m d stage jobs dirty copies first view ready j highest o found =
    subst (λ w. ((p : ℕ) → slice_index_or highest p 0 ≡ highest_lrc p (log_read m w.devices (working w.memory)))
    → each_held (reaches copies highest) (holds_in o) ≡ held_complete m w.devices (working w.memory) j)
    (sym (opened d stage jobs dirty copies first view refl Serving ready.2)) (held_told m d (working_of copies jobs first) j highest o found)
