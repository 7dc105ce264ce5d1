-- Copies brought up to date by one reading of the log: what a slot makes of them. Assumes nothing.
use Rattle.std.proofs.Common.{◌≡◌, ℕ, zero, suc, Bool, true, false, cond, eqb, List, [], ◌∷◌, get_or, Some, Option, set, sym, refl, ap, ◌∙◌, arith}
use Rattle.std.proofs.lemmas.Bool.{ne_eqb, cond-true, cond-false}
use Rattle.std.proofs.Math.Dec.{eqb-suc-suc}
use Rattle.format.specs.declared.page.Page.{Page}
use Rattle.format.specs.declared.slot.Slot.{Slot}
use Rattle.format.specs.declared.slot.Slot.TheVariants.{Record}
use Rattle.format.specs.declared.slot.PageRecord.{PageRecord}
use Rattle.format.specs.Changes.{Meaning}
use Rattle.recovery_log.specs.Log.{Log}
use Rattle.rules.specs.Playing.{play, played, of_page}
use Rattle.rules.specs.Service.{copy_of, at_held}
use Rattle.calls.specs.TakingBack.{brought_up}

at_held_same : (f g : ℕ → Page → Page) (hs : List Bool) (cs : List Page) → ((p : ℕ) (c : Page) → f p c ≡ g p c) → at_held f hs cs ≡ at_held g hs cs
at_held_same f g [] cs e = refl
at_held_same f g (h ∷ hs) [] e = refl
at_held_same f g (h ∷ hs) (c ∷ cs) e = rw (e 0 c, at_held_same (λ p. f (suc p)) (λ p. g (suc p)) hs cs (λ p. e (suc p))) refl

-- the copy of one page, changed once more
at_held_one : (g : Page → Page) (q : ℕ) (f : ℕ → Page → Page) (hs : List Bool) (cs : List Page)
    → at_held (λ p c. cond (eqb q p) (g (f p c)) (f p c)) hs cs
    ≡ cond (get_or hs q false) (set (at_held f hs cs) q (g (copy_of (at_held f hs cs) q))) (at_held f hs cs)
at_held_one g q f [] cs = refl
at_held_one g q f (h ∷ hs) [] = nothing_there (get_or (h ∷ hs) q false)
  where
    nothing_there : (b : Bool) → ◌≡◌ {A = List Page} [] (cond b (set [] q (g (copy_of [] q))) [])
    nothing_there true = refl
    nothing_there false = refl
at_held_one g zero f (h ∷ hs) (c ∷ cs) =
    ap (λ xs. cond h (g (f 0 c)) c ∷ xs) (at_held_same (λ p c. cond (eqb 0 (suc p)) (g (f (suc p) c)) (f (suc p) c)) (λ p. f (suc p)) hs cs (λ p c. rw (ne_eqb 0 (suc p) (λ e. omega arith)) refl)) ∙ here h
  where
    here : (h : Bool) → cond h (g (f 0 c)) c ∷ at_held (λ p. f (suc p)) hs cs
        ≡ cond h (set (at_held f (h ∷ hs) (c ∷ cs)) zero (g (copy_of (at_held f (h ∷ hs) (c ∷ cs)) zero))) (at_held f (h ∷ hs) (c ∷ cs))
    here true = refl
    here false = refl
at_held_one g (suc q) f (h ∷ hs) (c ∷ cs) =
    ap (λ x. cond h x c ∷ at_held (λ p c. cond (eqb (suc q) (suc p)) (g (f (suc p) c)) (f (suc p) c)) hs cs) (let no = ne_eqb (suc q) 0 (λ e. omega arith) in rw no refl)
    ∙ (ap (λ xs. cond h (f 0 c) c ∷ xs) (at_held_same (λ p c. cond (eqb (suc q) (suc p)) (g (f (suc p) c)) (f (suc p) c)) (λ p c. cond (eqb q p) (g (f (suc p) c)) (f (suc p) c)) hs cs (λ p c. rw (eqb-suc-suc q p) refl)
    ∙ at_held_one g q (λ p. f (suc p)) hs cs) ∙ there (get_or hs q false))
  where
    there : (b : Bool) → cond h (f 0 c) c ∷ cond b (set (at_held (λ p. f (suc p)) hs cs) q (g (copy_of (at_held (λ p. f (suc p)) hs cs) q))) (at_held (λ p. f (suc p)) hs cs)
        ≡ cond b (set (at_held f (h ∷ hs) (c ∷ cs)) (suc q) (g (copy_of (at_held f (h ∷ hs) (c ∷ cs)) (suc q)))) (at_held f (h ∷ hs) (c ∷ cs))
    there true = refl
    there false = refl

module _ {C : Type 0} (m : Meaning C) where
  -- a log that says nothing brings nothing
  pub nothing_brought : (hs : List Bool) (cs : List Page) → cs ≡ brought_up m hs [] cs
  nothing_brought [] cs = refl
  nothing_brought (h ∷ hs) [] = refl
  nothing_brought (h ∷ hs) (c ∷ cs) = ap (λ xs. c ∷ xs) (nothing_brought hs cs) ∙ same h
    where
      same : (h : Bool) → c ∷ brought_up m hs [] cs ≡ cond h c c ∷ brought_up m hs [] cs
      same true = refl
      same false = refl

  one_brought : (r : PageRecord C) (hs : List Bool) (L : Log C) (cs : List Page) → let bs = brought_up m hs L cs in
      brought_up m hs (Some (Record r) ∷ L) cs ≡ cond (get_or hs r.page false) (set bs r.page (play m r (copy_of bs r.page))) bs
  one_brought r hs L cs = at_held_one (play m r) r.page (λ p c. played m (of_page p) L c) hs cs

  module _ (hs : List Bool) (L : Log C) (cs : List Page) (slot : Option (Slot C)) (r : PageRecord C) (is : slot ≡ Some (Record r)) (old : List Page) (so : old ≡ brought_up m hs L cs) where
    pub played_on : get_or hs r.page false ≡ true → (new : List Page) → new ≡ set old r.page (play m r (copy_of old r.page)) → new ≡ brought_up m hs (slot ∷ L) cs
    played_on held new e = e ∙ (ap (λ bs. set bs r.page (play m r (copy_of bs r.page))) so
        ∙ sym (ap (λ x. brought_up m hs (x ∷ L) cs) is ∙ (one_brought r hs L cs ∙ cond-true (get_or hs r.page false) _ _ held)))

    pub passed_over : get_or hs r.page false ≡ false → old ≡ brought_up m hs (slot ∷ L) cs
    passed_over free = so ∙ sym (ap (λ x. brought_up m hs (x ∷ L) cs) is ∙ (one_brought r hs L cs ∙ cond-false (get_or hs r.page false) _ _ free))
