-- Two page stores, one after the other, as one. Assumes nothing.
use Rattle.std.proofs.Common.{sym, subst, ⊎_elim, arith}
use Rattle.std.specs.Prelude.{ℕ, ◌-◌, ◌&&◌, List, [], ◌++◌, length, take, refl}
use Rattle.std.proofs.lemmas.List.{length-take, length-append, get_or-take, get_or_append_left, get_or-append_right}
use Rattle.std.proofs.lemmas.Bool.{cases_lt}
use Rattle.format.specs.Bytes.{Bytes}
use Rattle.device.specs.PageStores.{PageModel, SoundPages}

-- the pages of the first, then those of the second, 65,536 at most; there is power where both have it
abbrev pub joined : PageModel → PageModel → PageModel
joined a b = record { pages = take 65536 (a.pages ++ b.pages); powered = a.powered && b.powered }

pub joined_sound : (a b : PageModel) → SoundPages a → SoundPages b → SoundPages (joined a b)
joined_sound a b sa sb =
    let n = length-take 65536 (a.pages ++ b.pages) in
    let m = length-append a.pages b.pages in
    let fits : List ℕ → Type 0 = λ x. Bytes 256 x in
    record {
      few = omega arith;
      each = λ p h. let t = get_or-take 65536 (a.pages ++ b.pages) p [] (omega arith) in
          ⊎_elim
          (λ l. let e = get_or_append_left a.pages b.pages [] p l in subst fits (sym t) (subst fits (sym e) (sa.each p l)))
          (λ l. let e = get_or-append_right a.pages b.pages (length a.pages) p [] refl l in
          subst fits (sym t) (subst fits (sym e) (sb.each (p - length a.pages) (omega arith))))
          (cases_lt p (length a.pages));
    }
