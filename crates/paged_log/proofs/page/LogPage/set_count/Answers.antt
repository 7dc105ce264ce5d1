use Rattle.std.proofs.Common.{◌≡◌, List, ℕ, ◌++◌, drop, replicate, ap, ◌∙◌}
use borrow.Rule.Slice.PartMut.{put_mid}
use Rattle.std.proofs.lemmas.List.{drop-drop}
use Rattle.format.specs.Bytes.{spelled}
use Rattle.paged_log.proofs.page.LogPage.set_count.Goals as goal

pub returns : goal.returns
returns c =
    let bytes = c.args.self.now.bytes in
    let count : c.copy_from_slice.new.self ≡ spelled c.args.count = c.copy_from_slice.ensures.after ∙ c.to_le_bytes.ensures in
    ap (λ (l : List ℕ). put_mid 4 12 (l ++ drop 4 bytes) c.copy_from_slice-2.new.self) count
    ∙ ap (λ (l : List ℕ). put_mid 4 12 (spelled c.args.count ++ drop 4 bytes) l) c.copy_from_slice-2.ensures.after
    ∙ ap (λ (l : List ℕ). spelled c.args.count ++ (replicate 12 0 ++ l)) (drop-drop 12 4 bytes)
