use Rattle.std.proofs.Common.{◌≡◌, ℕ, ◌/◌, List, [], length, take, drop, get_or, ap, ◌∙◌, rules}
use Rattle.std.specs.Simd.{first_chunks}
use Rattle.paged_log.proofs.PagedLogParts.{slot_part}
use Rattle.paged_log.proofs.page.LogPage.slot.Goals as goal

pub returns : goal.returns
returns c =
    let bytes = c.args.self.now.bytes in
    let whole : length bytes ≡ 256 = search rules in
    let front : c.as_chunks.result.0.now ≡ first_chunks 60 (length (take 240 (drop 16 bytes)) / 60) (take 240 (drop 16 bytes)) = c.as_chunks.ensures.front in
    ap (λ (l : List (List ℕ)). get_or l c.args.place []) front ∙ slot_part bytes c.args.place whole c.requires
