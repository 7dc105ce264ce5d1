use Rattle.std.proofs.Common.{◌≡◌, ℕ, List, length, true, get_or, Ok, ap, ◌∙◌, rules, Fits, w8}
use Rattle.std.specs.Option.{ok_or, option_copied}
use Rattle.device.specs.declared.page_store.PageFault.TheVariants.{Outside}
use Rattle.device.proofs.Rows.{as_bytes_is}
use Rattle.battery.specs.Batteries.{held}
use Rattle.battery.specs.BatteryStores.{pages_model}
use Rattle.battery.proofs.BatteryReads.{copied_answer, row_got, page_read}
use Rattle.battery.proofs.pages.BatteryPagesPageStore.read.Goals as goal

pub returns : goal.returns
returns c =
    let h = held c.args.self.now in
    let o = option_copied c.get.result in
    let on : h.powered ≡ true = search rules in
    let is : c.copied.result ≡ ok_or o Outside = rw (c.copied.ensures, c.ok_or.ensures.value) (copied_answer c.get.result Outside) in
    let long : (x : List ℕ) → c.copied.result ≡ Ok x → length x ≡ 256 = λ x e. search rules in
    let fits : (x : List ℕ) → c.copied.result ≡ Ok x → (k : ℕ) → Fits w8 (get_or x k 0) = λ x e k. search rules in
    rw is
    (page_read (pages_model h) c.args.page o on
    (row_got 256 h c.args.page o c.get.ensures (λ x e. let got = is ∙ ap (λ q. ok_or q Outside) e in as_bytes_is 256 x (long x got) (λ k. (fits x got k).fits))))
