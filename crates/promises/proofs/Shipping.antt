-- Ship keeps what holds in service: a copy that takes a shipped image is its page up to the image's LRC.
use Rattle.std.proofs.Common.{◌≡◌, ℕ, ◌<◌, ◌≤◌, Bool, true, false, eqb, leb, List, set, Result, sym, refl, ap, ◌∙◌, subst, arith, length-set}
use Rattle.std.proofs.lemmas.List.{get_or-set_same, get_or-set_other}
use Rattle.std.proofs.lemmas.Bool.{eqb-true, eqb-false, leb-true, ltb-true, and_parts, true≢false}
use Rattle.format.specs.declared.page.Page.{Page}
use Rattle.format.specs.Bytes.{number_at}
use Rattle.format.specs.Changes.{Meaning, Lawful}
use Rattle.format.specs.Pages.{page_bytes, page_of, blank_page}
use Rattle.recovery_log.specs.Log.{Log}
use Rattle.rules.specs.declared.refusal.Refusal.{Refusal}
use Rattle.rules.specs.Ledger.{Ledger}
use Rattle.rules.specs.Plans.{Does}
use Rattle.rules.specs.Playing.{played, up_to_lrc}
use Rattle.rules.specs.Restart.{whole}
use Rattle.rules.specs.Runs.{ships, told_service}
use Rattle.rules.specs.Service.{copy_of, ship_in, log_read, last_of, up_to_last, gives_image, with_copy}
use Rattle.rules.specs.State.{Devices, serving, World, Working, size}
use Rattle.rules.specs.Tables.{is_held, held_by}
use Rattle.promises.proofs.Asking.{asked}
use Rattle.promises.proofs.Fitting.{page_written, same_image}
use Rattle.promises.proofs.Images.{image_content, image_lrc, played_image}
use Rattle.promises.proofs.Invariants.{stored_lrcs, Kept, Copy, Serving, Stage, Good}
use Rattle.promises.proofs.Legal.{count, image, masked}
use Rattle.promises.proofs.Operations.{sizes_of}
use Rattle.promises.proofs.OwedLaws.{room_now}
use Rattle.promises.proofs.PageCounts.{count_length}
use Rattle.promises.proofs.Serves.{nothing_done, read_masked, copy_covers, last_is_count}
use Rattle.promises.proofs.TableLaws.{held_is_held}

module _ {C : Type 0} (m : Meaning C) where
  -- what a copy needs, by the page that it is
  pub copy_from : (d : Devices) (s : Working) (q : ℕ) (x : Page) → copy_of s.copies q ≡ x → x ≡ image m (whole m d) q x.lrc
      → stored_lrcs m d q ≤ x.lrc → x.lrc ≤ count (whole m d) q → (is_held q s.jobs ≡ false → x.lrc ≡ count (whole m d) q) → Copy m d s q
  copy_from d s q x e i a b c = record {
    image = subst (λ (y : Page). y ≡ image m (whole m d) q y.lrc) (sym e) i;
    above = subst (λ (y : Page). stored_lrcs m d q ≤ y.lrc) (sym e) a;
    below = subst (λ (y : Page). y.lrc ≤ count (whole m d) q) (sym e) b;
    complete = λ n. ap (λ (y : Page). y.lrc) e ∙ c n;
  }

module _ {C : Type 0} (m : Meaning C) (law : Lawful m) where
  module _ (h : Ledger C) (d : Devices) (s : Working) (p : ℕ) (bytes : List ℕ) (k : Kept m h d) (v : Serving m d s)
      (order : up_to_last m d s p (number_at bytes 0) ≡ true) (same : gives_image m d s p bytes ≡ true) where
    abbrev copy : Page
    copy = copy_of s.copies p

    abbrev lrc : ℕ
    lrc = number_at bytes 0

    bounds : (copy.lrc ≤ lrc) × (lrc ≤ count (whole m d) p)
    bounds = let a = and_parts (leb copy.lrc lrc) (leb lrc (last_of m d s p)) order in
        let b = leb-true _ _ a.1 in
        (leb-true _ _ a.0, omega (arith, last_is_count m d s k.durable v p))

    is_image : played m (up_to_lrc p lrc) (log_read m d s) copy ≡ image m (whole m d) p lrc
    is_image = ap (λ (M : Log C). played m (up_to_lrc p lrc) M copy) (read_masked m d s k.durable v)
        ∙ (ap (played m (up_to_lrc p lrc) (masked s.first (whole m d))) (v.copies p).image
        ∙ played_image (size d) d.log.capacity m s.first (whole m d) p copy.lrc lrc k.durable.legal (copy_covers m d s k.durable v p) bounds.0 bounds.1)

    image_lrc_is : (image m (whole m d) p lrc).lrc ≡ lrc
    image_lrc_is = image_lrc (size d) d.log.capacity m (whole m d) p lrc k.durable.legal bounds.1

    page_is : page_of bytes ≡ image m (whole m d) p lrc
    page_is =
        let b = bounds.1 in
        let c = count_length (whole m d) p in
        let r = room_now (size d) d.log.capacity (whole m d) k.durable.legal in
        let few = (sizes_of d k.durable.sizes).short in
        ap page_of (sym (same_image _ _ same) ∙ ap page_bytes is_image)
        ∙ page_written (image m (whole m d) p lrc) (omega (arith, image_lrc_is)) (image_content m law (whole m d) p lrc)

    -- the other copies stay as they are, and the page is held
    shipped : (j : ℕ) → held_by j p s.jobs ≡ true → p < size d → (q : ℕ) → Copy m d (record { copies = set s.copies p (page_of bytes); jobs = s.jobs; first = s.first }) q
    shipped j held lt q = go (eqb p q) refl
      where
        new : Working
        new = record { copies = set s.copies p (page_of bytes); jobs = s.jobs; first = s.first }

        go : (t : Bool) → eqb p q ≡ t → Copy m d new q
        go true e = subst (Copy m d new) (eqb-true p q e)
            (copy_from m d new p (image m (whole m d) p lrc) (get_or-set_same s.copies p (page_of bytes) blank_page (omega (arith, v.many)) ∙ page_is)
            (ap (image m (whole m d) p) (sym image_lrc_is)) (omega (arith, (v.copies p).above, image_lrc_is, bounds.0)) (omega (arith, image_lrc_is, bounds.1))
            (λ n. absurd (true≢false (sym (held_is_held j p s.jobs held) ∙ n))))
        go false e = let c = v.copies q in
            copy_from m d new q (copy_of s.copies q) (get_or-set_other s.copies p q (page_of bytes) blank_page (λ o. eqb-false p q e (sym o))) c.image c.above c.below c.complete

  pub ship_good : (h : Ledger C) (d : Devices) (s : Working) (j p : ℕ) (bytes : List ℕ) (r : Result (Unit {0}) Refusal) (v : World)
      → Kept m h d → Stage m h d (serving s) → Does m (ship_in m j p bytes d s) (record { devices = d; memory = serving s }) r v
      → Good m (told_service m (ships j p bytes) r h) v
  ship_good h d s j p bytes r v k st x =
      asked m Q was (λ job x. asked m Q was (λ inside x. asked m Q was (λ long x. asked m Q was (λ held x. asked m Q was (λ order x. asked m Q was (λ same x.
      nothing_done m Q (new held (ltb-true _ _ inside) order same) x) x) x) x) x) x) x
    where
      Q : Result (Unit {0}) Refusal → World → Type 0
      Q r v = Good m (told_service m (ships j p bytes) r h) v

      was : Good m h (record { devices = d; memory = serving s })
      was = record { kept = k; stage = st }

      new : held_by j p s.jobs ≡ true → p < size d → up_to_last m d s p (number_at bytes 0) ≡ true → gives_image m d s p bytes ≡ true
          → Good m h (record { devices = d; memory = with_copy s p (page_of bytes) })
      new held inside order same = let z = st.1 in record {
        kept = k;
        stage = (
          st.0,
          record {
            power = z.power;
            jobs = z.jobs;
            one = z.one;
            changed = z.changed;
            many = length-set s.copies p (page_of bytes) ∙ z.many;
            copies = shipped h d s p bytes k z order same j held inside;
            first = z.first;
            young = z.young;
            opened = z.opened;
          },
          st.2,
        );
      }
