use Rattle.std.proofs.Common.{take, drop, ◌∙◌, rules}
use Rattle.std.proofs.lemmas.List.{drop-drop, take_rest}
use Rattle.chain_file.proofs.readers.Reader.cut.Goals as goal

pub returns : goal.returns
returns c =
    let bytes = c.args.self.now.rest.now in
    let size = c.from-size.ensures ∙ c.from_be_bytes-length.ensures in (
      search rules,
      c.split_at.ensures.front ∙ (λ i. take (size i) (take_rest bytes 2 i)),
      c.split_at.ensures.back ∙ (λ i. drop (size i) (take_rest bytes 2 i)) ∙ drop-drop _ 2 bytes,
    )
