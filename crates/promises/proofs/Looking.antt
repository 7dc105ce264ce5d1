-- A look leaves all as it was, and answers what the ledger says that the page should hold. Assumes nothing.
use Rattle.std.proofs.Common.{◌≡◌, ℕ, Bool, true, false, cond, ◌&&◌, eqb, List, [], ◌∷◌, drop, replicate, Ok, Err, Result, sym, refl, ap, ◌∙◌, subst, ⊎_elim, arith}
use Rattle.std.proofs.lemmas.Bool.{not-true, or_cases, both_ways}
use Rattle.format.specs.declared.page.Page.{Page}
use Rattle.format.specs.Changes.{Meaning, Lawful}
use Rattle.format.specs.Pages.{page_bytes}
use Rattle.recovery_log.specs.Log.{is_committed, Numbered}
use Rattle.rules.specs.declared.refusal.Refusal.{Refusal}
use Rattle.rules.specs.Ledger.{Ledger, Entry, is_in, content_by, content_of}
use Rattle.rules.specs.Plans.{Does}
use Rattle.rules.specs.Restart.{whole}
use Rattle.rules.specs.Runs.{looks, told_service}
use Rattle.rules.specs.Service.{copy_of, look_in}
use Rattle.rules.specs.State.{Devices, Working, serving, World, size}
use Rattle.rules.specs.Tables.{held_by, is_held}
use Rattle.promises.proofs.Asking.{asked}
use Rattle.promises.proofs.DataLaw.{poured, data_law}
use Rattle.promises.proofs.Invariants.{entries_by, pile_by, Kept, Stage, Good}
use Rattle.promises.proofs.Legal.{image, pile}
use Rattle.promises.proofs.Membership.{In, here, there}
use Rattle.promises.proofs.Piles.{pile_page, pile_pending, pile_live}
use Rattle.promises.proofs.Serves.{nothing_done, entries_alike}
use Rattle.promises.proofs.TableLaws.{held_is_held}

-- Entries put on zeros

module _ {C : Type 0} (m : Meaning C) where
  abbrev spread : List (Entry C) → List ℕ
  spread [] = replicate 252 0
  spread (e ∷ es) = m.put e.change (spread es)

  spread_content : (kept : List ℕ) (p : ℕ) (es : List (Entry C)) → content_by m kept p es ≡ spread (entries_by (λ j. is_in j kept) p es)
  spread_content kept p [] = refl
  spread_content kept p (e ∷ es) = go (eqb e.page p && is_in e.job kept) (spread_content kept p es)
    where
      go : (t : Bool) → content_by m kept p es ≡ spread (entries_by (λ j. is_in j kept) p es)
          → cond t (m.put e.change (content_by m kept p es)) (content_by m kept p es) ≡ spread (cond t (e ∷ entries_by (λ j. is_in j kept) p es) (entries_by (λ j. is_in j kept) p es))
      go true k = ap (m.put e.change) k
      go false k = k

  -- a pile of which all is kept
  spread_pile : (test : ℕ → Bool) (xs : List (Numbered C)) → ((x : Numbered C) → In x xs → test x.record'.job ≡ true) → spread (pile_by test xs) ≡ poured m xs
  spread_pile test [] all = refl
  spread_pile test (x ∷ xs) all = rw (all x (here refl)) (ap (m.put x.record'.change) (spread_pile test xs (λ y i. all y (there i))))

module _ {C : Type 0} (m : Meaning C) (law : Lawful m) where
  -- what nobody holds has only changes of committed jobs
  pub free_committed : (h : Ledger C) (d : Devices) (s : Working) (p : ℕ) → Kept m h d → Stage m h d (serving s) → is_held p s.jobs ≡ false
      → (x : Numbered C) → In x (pile (whole m d) p) → is_committed (whole m d) x.record'.job ≡ true
  free_committed h d s p k st free x i = ⊎_elim
      (λ o. absurd (both_ways _ free (held_is_held x.record'.job p s.jobs (subst (λ q. held_by x.record'.job q s.jobs ≡ true) (pile_page (whole m d) p x i)
      (st.1.changed x.record'.job x o (pile_pending (size d) d.log.capacity (whole m d) p x k.durable.legal k.durable.exclusive i))))))
      (λ c. c) (or_cases _ _ (pile_live (size d) d.log.capacity (whole m d) p x k.durable.legal k.durable.exclusive i))

  pub free_content : (h : Ledger C) (d : Devices) (s : Working) (p : ℕ) → Kept m h d → Stage m h d (serving s) → is_held p s.jobs ≡ false
      → (copy_of s.copies p).content ≡ content_of m h p
  free_content h d s p k st free =
      let c = st.1.copies p in
      ap (λ (x : Page). x.content) (c.image ∙ ap (image m (whole m d) p) (c.complete free))
      ∙ (data_law (size d) d.log.capacity m law (whole m d) p k.durable.legal k.durable.exclusive
      ∙ sym (spread_content m h.kept p h.entries
      ∙ (ap (spread m) (entries_alike (λ j. is_in j h.kept) (is_committed (whole m d)) p h.entries (λ e i. st.0.exact e.job) ∙ k.book.entries p)
      ∙ spread_pile m (is_committed (whole m d)) (pile (whole m d) p) (free_committed h d s p k st free))))

  pub look_good : (h : Ledger C) (p n : ℕ) (d : Devices) (s : Working) (r : Result (List ℕ) Refusal) (v : World) → Kept m h d → Stage m h d (serving s)
      → Does m (look_in m p n d s) (record { devices = d; memory = serving s }) r v → Good m (told_service m (looks p n) r h) v
  look_good h p n d s r v k st x = asked m Q same (λ e₁ x₁. asked m Q same (λ e₂ x₂. asked m Q same (λ e₃ x₃. nothing_done m Q same x₃) x₂) x₁) x
    where
      Q : Result (List ℕ) Refusal → World → Type 0
      Q r v = Good m (told_service m (looks p n) r h) v

      same : Good m h (record { devices = d; memory = serving s })
      same = record { kept = k; stage = st }

  pub look_right : (h : Ledger C) (p n : ℕ) (d : Devices) (s : Working) (bytes : List ℕ) (v : World) → Kept m h d → Stage m h d (serving s)
      → Does m (look_in m p n d s) (record { devices = d; memory = serving s }) (Ok bytes) v → drop 4 bytes ≡ content_of m h p
  look_right h p n d s bytes v k st x = asked m Q never (λ e₁ x₁. asked m Q never (λ e₂ x₂. asked m Q never (λ e₃ x₃.
      nothing_done m Q (λ q. right (not-true _ e₃) q) x₃) x₂) x₁) x refl
    where
      Q : Result (List ℕ) Refusal → World → Type 0
      Q r v = r ≡ Ok bytes → drop 4 bytes ≡ content_of m h p

      never : {P : Type 0} {why : Refusal} → ◌≡◌ {A = Result (List ℕ) Refusal} (Err why) (Ok bytes) → P
      never q = let z : ◌≡◌ {A = ℕ} 0 1 = cc in absurd (omega arith)

      right : is_held p s.jobs ≡ false → ◌≡◌ {A = Result (List ℕ) Refusal} (Ok (page_bytes (copy_of s.copies p))) (Ok bytes) → drop 4 bytes ≡ content_of m h p
      right free q = let is : bytes ≡ page_bytes (copy_of s.copies p) = cc in ap (drop 4) is ∙ free_content h d s p k st free
