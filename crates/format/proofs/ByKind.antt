-- The nine kinds, one after the other: their numbers, what a slot's fields are, and which slot fields give. Assumes nothing.
use Rattle.std.proofs.Common.{◌≡◌, ℕ, Bool, true, false, cond, ◌||◌, eqb, List, [], ◌∷◌, length, replicate, is_some, Some, None, Option, sym, refl, ap, ◌∙◌, subst, arith}
use Rattle.std.specs.List.{find}
use Rattle.std.specs.Option.{option_map}
use Rattle.std.proofs.lemmas.Bool.{and_parts, eqb-true}
use Rattle.format.specs.declared.slot.Slot.{Slot}
use Rattle.format.specs.declared.slot.Slot.TheVariants.{Record, Job, Checkpoint}
use Rattle.format.specs.declared.slot.Action.{Action}
use Rattle.format.specs.declared.slot.Action.TheVariants.{Put, TakeBack}
use Rattle.format.specs.declared.slot.JobEvent.TheVariants.{Open, Commit, End}
use Rattle.format.specs.declared.slot.CheckpointPart.TheVariants.{Begin, DirtyPage, OpenJob, Complete}
use Rattle.format.specs.declared.slot.kind.SlotKind.{SlotKind}
use Rattle.format.specs.declared.slot.kind.SlotKind.TheVariants as kind
use Rattle.format.specs.declared.slot.fields.Fields.{Fields}
use Rattle.format.specs.Bytes.{all_zero}
use Rattle.format.proofs.Rows.{all_zero_is}
use Rattle.format.specs.Changes.{Meaning, Lawful}
use Rattle.format.specs.Slots.{kind_of, kind_of_action, kind_number, kind_numbered, every_kind, uses_of, slot_by, slot_of, slot_fields, fields, unused_zero, only_used, record_of, change_fits, no_change}

pub number_kind : (k : SlotKind) → kind_numbered (kind_number k) ≡ Some k
number_kind kind.Open = refl
number_kind kind.Change = refl
number_kind kind.Compensation = refl
number_kind kind.Commit = refl
number_kind kind.End = refl
number_kind kind.CheckpointBegin = refl
number_kind kind.CheckpointPage = refl
number_kind kind.CheckpointJob = refl
number_kind kind.CheckpointEnd = refl

-- what is found passes the test
passes : {X : Type 0} (p : X → Bool) (xs : List X) (x : X) → find p xs ≡ Some x → p x ≡ true
passes p [] x e = let z : ◌≡◌ {A = ℕ} 0 1 = cc in absurd (omega arith)
passes p (y ∷ xs) x e = go (p y) refl e (passes p xs x)
  where
    go : (t : Bool) → p y ≡ t → cond t (Some y) (find p xs) ≡ Some x → (find p xs ≡ Some x → p x ≡ true) → p x ≡ true
    go true q h more = let same : y ≡ x = cc in subst (λ v. p v ≡ true) same q
    go false q h more = more h

pub numbered_kind : (n : ℕ) (k : SlotKind) → kind_numbered n ≡ Some k → kind_number k ≡ n
numbered_kind n k e = sym (eqb-true n (kind_number k) (passes (λ j. eqb n (kind_number j)) every_kind k e))

module _ {C : Type 0} (m : Meaning C) where
  -- Fields of a slot

  -- they are of its kind, and zero where the kind has none
  pub record Rowed (s : Slot C) : Type 0 where
    pub kind : (slot_fields m s).kind ≡ kind_of s
    pub clean : unused_zero (uses_of (slot_fields m s).kind) (slot_fields m s) ≡ true

  pub rowed : (s : Slot C) → Rowed s
  rowed (Record r) = go r.action
    where
      go : (a : Action) → Rowed (Record (record { action = a; page = r.page; job = r.job; lrc = r.lrc; link = r.link; change = r.change }))
      go Put = record { kind = refl; clean = refl }
      go TakeBack = record { kind = refl; clean = refl }
  rowed (Job Open j) = record { kind = refl; clean = refl }
  rowed (Job Commit j) = record { kind = refl; clean = refl }
  rowed (Job End j) = record { kind = refl; clean = refl }
  rowed (Checkpoint Begin) = record { kind = refl; clean = refl }
  rowed (Checkpoint (DirtyPage p s)) = record { kind = refl; clean = refl }
  rowed (Checkpoint (OpenJob j n)) = record { kind = refl; clean = refl }
  rowed (Checkpoint (Complete b)) = record { kind = refl; clean = refl }

  -- under a lawful kind of change they also give the slot
  pub record Told (s : Slot C) : Type 0 where
    pub row : Rowed s
    pub long : length (slot_fields m s).change ≡ 40
    pub gives : slot_of m (slot_fields m s) ≡ Some s

  pub told : Lawful m → (s : Slot C) → Told s
  told law (Record r) = go r.action
    where
      go : (a : Action) → Told (Record (record { action = a; page = r.page; job = r.job; lrc = r.lrc; link = r.link; change = r.change }))
      go Put = record { row = rowed _; long = (law.bytes_fit r.change).size; gives = rw (law.bytes_read r.change) }
      go TakeBack = record { row = rowed _; long = (law.bytes_fit r.change).size; gives = rw (law.bytes_read r.change) }
  told law (Job Open j) = record { row = rowed _; long = refl; gives = refl }
  told law (Job Commit j) = record { row = rowed _; long = refl; gives = refl }
  told law (Job End j) = record { row = rowed _; long = refl; gives = refl }
  told law (Checkpoint Begin) = record { row = rowed _; long = refl; gives = refl }
  told law (Checkpoint (DirtyPage p s)) = record { row = rowed _; long = refl; gives = refl }
  told law (Checkpoint (OpenJob j n)) = record { row = rowed _; long = refl; gives = refl }
  told law (Checkpoint (Complete b)) = record { row = rowed _; long = refl; gives = refl }

  -- Fields that give a slot

  module _ (law : Lawful m) (p j l x : ℕ) (c : List ℕ) (s : Slot C) where
    of_record : (a : Action) (o : Option C) → m.reads c ≡ o → option_map (record_of a (fields (kind_of_action a) p j l x c)) o ≡ Some s
        → slot_fields m s ≡ fields (kind_of_action a) p j l x c
    of_record a None e g = let z : ◌≡◌ {A = ℕ} 0 1 = cc in absurd (omega arith)
    of_record a (Some d) e g = let b = law.reads_bytes c d e in cc

    -- a slot's fields are those that its kind uses
    by_kind : (k : SlotKind) → slot_of m (fields k p j l x c) ≡ Some s → slot_fields m s ≡ only_used (fields k p j l x c)
    by_kind kind.Open g = cc
    by_kind kind.Change g = of_record Put _ refl g
    by_kind kind.Compensation g = of_record TakeBack _ refl g
    by_kind kind.Commit g = cc
    by_kind kind.End g = cc
    by_kind kind.CheckpointBegin g = cc
    by_kind kind.CheckpointPage g = cc
    by_kind kind.CheckpointJob g = cc
    by_kind kind.CheckpointEnd g = cc

  pub fields_of_slot : Lawful m → (f : Fields) (s : Slot C) → slot_of m f ≡ Some s → slot_fields m s ≡ only_used f
  fields_of_slot law f s g = by_kind law f.page f.job f.lrc f.link f.change s f.kind g

  of_action : (a : Action) (f : Fields) (s : Slot C) (o : Option C) → option_map (record_of a f) o ≡ Some s → kind_of s ≡ kind_of_action a
  of_action a f s None g = let z : ◌≡◌ {A = ℕ} 0 1 = cc in absurd (omega arith)
  of_action a f s (Some d) g = cc

  -- a slot is of the kind under which it was found
  pub kind_of_slot : (f : Fields) (s : Slot C) (k : SlotKind) → slot_by m f k ≡ Some s → kind_of s ≡ k
  kind_of_slot f s kind.Open g = cc
  kind_of_slot f s kind.Change g = of_action Put f s _ g
  kind_of_slot f s kind.Compensation g = of_action TakeBack f s _ g
  kind_of_slot f s kind.Commit g = cc
  kind_of_slot f s kind.End g = cc
  kind_of_slot f s kind.CheckpointBegin g = cc
  kind_of_slot f s kind.CheckpointPage g = cc
  kind_of_slot f s kind.CheckpointJob g = cc
  kind_of_slot f s kind.CheckpointEnd g = cc

  some_mapped : {A B : Type 0} (g : A → B) (o : Option A) → is_some (option_map g o) ≡ is_some o
  some_mapped g None = refl
  some_mapped g (Some x) = refl

  -- fields give a slot exactly where their change is one
  pub has_slot : (f : Fields) (k : SlotKind) → is_some (slot_by m f k) ≡ change_fits m (uses_of k) f
  has_slot f kind.Open = refl
  has_slot f kind.Change = some_mapped _ (m.reads f.change)
  has_slot f kind.Compensation = some_mapped _ (m.reads f.change)
  has_slot f kind.Commit = refl
  has_slot f kind.End = refl
  has_slot f kind.CheckpointBegin = refl
  has_slot f kind.CheckpointPage = refl
  has_slot f kind.CheckpointJob = refl
  has_slot f kind.CheckpointEnd = refl

-- Fields that are clean

kept : {A : Type 0} (u : Bool) (t : Bool) (x z : A) → (t ≡ true → x ≡ z) → (u || t) ≡ true → cond u x z ≡ x
kept true t x z to h = refl
kept false t x z to h = sym (to h)

-- what the kind does not use is zero already
pub only_clean : (f : Fields) → length f.change ≡ 40 → unused_zero (uses_of f.kind) f ≡ true → only_used f ≡ f
only_clean f long h =
    let u = uses_of f.kind in
    let p1 = and_parts _ _ h in
    let p2 = and_parts _ _ p1.1 in
    let p3 = and_parts _ _ p2.1 in
    let p4 = and_parts _ _ p3.1 in
    let page = kept u.page (eqb f.page 0) f.page 0 (eqb-true f.page 0) p1.0 in
    let job = kept u.job (eqb f.job 0) f.job 0 (eqb-true f.job 0) p2.0 in
    let lrc = kept u.lrc (eqb f.lrc 0) f.lrc 0 (eqb-true f.lrc 0) p3.0 in
    let link = kept u.link (eqb f.link 0) f.link 0 (eqb-true f.link 0) p4.0 in
    let change = kept u.change (all_zero f.change) f.change no_change
    (λ z. all_zero_is f.change z ∙ ap (λ (n : ℕ). replicate n 0) long) p4.1 in
    λ i. record { kind = f.kind; page = page i; job = job i; lrc = lrc i; link = link i; change = change i }
