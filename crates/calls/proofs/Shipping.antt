-- Ship in the words of its plan. Assumes nothing.
use Rattle.std.proofs.Common.{◌≡◌, ℕ, Bool, true, cond, ◌&&◌, leb, List, [], length, slice_set, Ok, Err, Result, sym, ap, ◌∙◌}
use Rattle.std.specs.Str.{bytes_eq}
use Rattle.format.specs.declared.page.Page.{Page}
use Rattle.format.specs.Bytes.{number_at}
use Rattle.format.specs.Changes.{Meaning}
use Rattle.format.specs.Pages.{page_bytes, page_of}
use Rattle.rules.specs.declared.refusal.Refusal.{Refusal}
use Rattle.rules.specs.declared.refusal.Refusal.TheVariants.{LrcOutOfOrder, ImageDiffers}
use Rattle.rules.specs.Plans.{performs, Does, done, performed}
use Rattle.rules.specs.Playing.{played, up_to_lrc, last_lrc}
use Rattle.rules.specs.Service.{copy_of, log_read, last_of, ship_in, in_store, holds_a_page, up_to_last, gives_image, with_copy}
use Rattle.rules.specs.State.{Devices, Working, Memory, World, serving}
use Rattle.rules.specs.Tables.{is_job, held_by}
use Rattle.calls.specs.Outcomes.{asked}
use Rattle.calls.specs.Parts.{image_in}
use Rattle.calls.proofs.Checks.{told, told_yes}

-- the two questions about an image, where the second is reached
module _ {C : Type 0} (m : Meaning C) (d : Devices) (s : Working) (p : ℕ) (image : List ℕ) {shipped copy after : Page} {last : ℕ}
    (is : shipped ≡ page_of image) (copied : copy ≡ copy_of s.copies p) (ends : last ≡ last_lrc p copy.lrc (log_read m d s))
    (made : after ≡ played m (up_to_lrc p shipped.lrc) (log_read m d s) copy) where
  lrc_is : shipped.lrc ≡ number_at image 0
  lrc_is = ap (λ x. x.lrc) is

  start_is : copy.lrc ≡ (copy_of s.copies p).lrc
  start_is = ap (λ x. x.lrc) copied

  last_is : last ≡ last_of m d s p
  last_is = ends ∙ ap (λ k. last_lrc p k (log_read m d s)) start_is

  after_is : after ≡ played m (up_to_lrc p (number_at image 0)) (log_read m d s) (copy_of s.copies p)
  after_is = made ∙ (ap (λ k. played m (up_to_lrc p k) (log_read m d s) copy) lrc_is ∙ ap (played m (up_to_lrc p (number_at image 0)) (log_read m d s)) copied)

  reached : leb copy.lrc shipped.lrc ≡ true → leb shipped.lrc last ≡ true → up_to_last m d s p (number_at image 0) ≡ true
  reached low high =
      ap (λ b. b && leb (number_at image 0) (last_of m d s p)) (ap (λ k. leb k (number_at image 0)) (sym start_is) ∙ (ap (leb copy.lrc) (sym lrc_is) ∙ low))
      ∙ (ap (λ k. leb k (last_of m d s p)) (sym lrc_is) ∙ (ap (leb shipped.lrc) (sym last_is) ∙ high))

  pub image_asked : {b : Bool} {r : Result (Unit {0}) Refusal} → Ok tt ≡ told (leb copy.lrc shipped.lrc) LrcOutOfOrder → Ok tt ≡ told (leb shipped.lrc last) LrcOutOfOrder
      → b ≡ bytes_eq (page_bytes after) image → r ≡ told b ImageDiffers → r ≡ asked (image_in m p image d s)
  image_asked low high ask says =
      says ∙ (ap (λ b. told b ImageDiffers) (ask ∙ ap (λ x. bytes_eq (page_bytes x) image) after_is)
      ∙ sym (ap (λ b. cond b (told (gives_image m d s p image) ImageDiffers) (Err LrcOutOfOrder)) (reached (told_yes _ _ low) (told_yes _ _ high))))

-- the questions before them are answered yes
pub ship_asked : {C : Type 0} (m : Meaning C) (j p : ℕ) (image : List ℕ) (d : Devices) (s : Working) {r : Result (Unit {0}) Refusal} → is_job j s.jobs ≡ true → in_store d p ≡ true
    → holds_a_page (length image) ≡ true → held_by j p s.jobs ≡ true → r ≡ asked (image_in m p image d s) → r ≡ asked (ship_in m j p image d s)
ship_asked m j p image d s job page buffer held e = rw (job, page, buffer, held) e

-- the image becomes the copy
pub takes_image : {C : Type 0} (m : Meaning C) (w : World) (s : Working) (p : ℕ) (image : List ℕ) {after : Memory} {copies : List Page}
    → after ≡ serving (record { copies = copies; jobs = s.jobs; first = s.first }) → copies ≡ slice_set s.copies p (page_of image)
    → Does m {A = Unit {0}} (performs [] (Ok tt) (with_copy s p (page_of image))) w (Ok tt) (record { devices = w.devices; memory = after })
takes_image m w s p image after copies = rw (after, copies) (performed done)
