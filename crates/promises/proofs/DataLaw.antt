-- A page's content is what its pile puts on zeros, the oldest change first.
use Rattle.std.proofs.Common.{◌≡◌, ℕ, Bool, true, false, eqb, List, [], ◌∷◌, replicate, Some, None, sym, refl, ap, ◌∙◌, subst}
use Rattle.std.proofs.lemmas.Bool.{eqb-true, eq-eqb}
use Rattle.format.specs.declared.slot.Slot.TheVariants.{Record, Job, Checkpoint}
use Rattle.format.specs.declared.slot.Action.{Action}
use Rattle.format.specs.declared.slot.Action.TheVariants.{Put, TakeBack}
use Rattle.format.specs.Changes.{Meaning, Lawful, Content}
use Rattle.recovery_log.specs.Log.{Log, new_number, Numbered, rest, pending_by}
use Rattle.rules.specs.Playing.{acted}
use Rattle.promises.proofs.Legal.{pile, whole_page, Legal, Follows, Exclusive}
use Rattle.promises.proofs.Images.{blank_content, whole_next, whole_other}
use Rattle.promises.proofs.Piles.{pile_taken}

abbrev pub poured : {C : Type 0} → Meaning C → List (Numbered C) → List ℕ
poured m [] = replicate 252 0
poured m (x ∷ xs) = m.put x.record'.change (poured m xs)

module _ {C : Type 0} (m : Meaning C) (law : Lawful m) where
  pub poured_content : (xs : List (Numbered C)) → Content (poured m xs)
  poured_content [] = blank_content
  poured_content (x ∷ xs) = law.put_fits _ _ (poured_content xs)

  -- taking back the newest leaves the others
  taken_back : (c : C) (xs : List (Numbered C)) (top : Numbered C) (below : List (Numbered C)) → xs ≡ top ∷ below → c ≡ top.record'.change → m.back c (poured m xs) ≡ poured m (rest xs)
  taken_back c xs top below e q =
      ap (λ zs. m.back c (poured m zs)) e ∙ (ap (λ d. m.back d (m.put top.record'.change (poured m below))) q ∙ (law.back_put _ _ (poured_content below) ∙ ap (λ zs. poured m (rest zs)) (sym e)))

module _ {C : Type 0} (size capacity : ℕ) (m : Meaning C) (law : Lawful m) where
  pub data_law : (L : Log C) (p : ℕ) → Legal size capacity L → Exclusive L → (whole_page m L p).content ≡ poured m (pile L p)
  data_law [] p h x = refl
  data_law (None ∷ L) p h x = absurd h.1
  data_law (Some (Record r) ∷ L) p h x = go (eqb r.page p) refl (data_law L p h.0 x.0)
    where
      acts : (a : Action) → Follows a L r → (whole_page m L r.page).content ≡ poured m (pile L r.page)
          → acted m a r.change (whole_page m L r.page).content ≡ poured m (pending_by a (record { number = new_number L; record' = r }) (pile L r.page))
      acts Put w ih = ap (m.put r.change) ih
      acts TakeBack w ih =
          ap (m.back r.change) ih ∙ taken_back m law r.change (pile L r.page) w.top (rest (pile L r.page)) (pile_taken size capacity L r h.0 x.0 h.1.opened w).0 w.change

      own : (whole_page m L r.page).content ≡ poured m (pile L r.page) → (whole_page m (Some (Record r) ∷ L) r.page).content ≡ poured m (pile (Some (Record r) ∷ L) r.page)
      own ih = ap (λ y. y.content) (whole_next size capacity m L r h.0 h.1) ∙ rw (eq-eqb r.page r.page refl) (acts r.action h.1.follows ih)

      go : (t : Bool) → eqb r.page p ≡ t → (whole_page m L p).content ≡ poured m (pile L p) → (whole_page m (Some (Record r) ∷ L) p).content ≡ poured m (pile (Some (Record r) ∷ L) p)
      go false e ih = ap (λ y. y.content) (whole_other m L r p e) ∙ (ih ∙ rw e)
      go true e ih = subst (λ q. (whole_page m (Some (Record r) ∷ L) q).content ≡ poured m (pile (Some (Record r) ∷ L) q)) (eqb-true _ _ e) (own (subst (λ q. (whole_page m L q).content ≡ poured m (pile L q)) (sym (eqb-true _ _ e)) ih))
  data_law (Some (Job e j) ∷ L) p h x = data_law L p h.0 x.0
  data_law (Some (Checkpoint c) ∷ L) p h x = data_law L p h.0 x.0
