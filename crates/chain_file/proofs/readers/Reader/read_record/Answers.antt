use Rattle.std.proofs.Common.{◌≡◌, None, rules}
use Rattle.std.proofs.lemmas.Result.{err_from_is_err_and}
use Rattle.chain_file.specs.Fields.{head, rest, said}
use Rattle.chain_file.specs.Format.{after_record, body, body_refusal, cut_refusal}
use Rattle.chain_file.proofs.Nexts.{next-chain}
use Rattle.chain_file.proofs.readers.Reader.read_record.Goals as goal

pub returns-in_err-chain : goal.returns-in_err-chain
returns-in_err-chain c =
    let bytes = c.args.self.now.rest.now in
    let right : cut_refusal c.args.self.now.read bytes ≡ None = search rules in
    let fine : body_refusal (body bytes) ≡ None = search rules in
    let p = err_from_is_err_and c.from_residual-in_err-chain.result c.from_residual-in_err-chain.ensures.1 in
    rw (p.1, p.2) (said (head (body bytes)) (rest (body bytes)), after_record bytes, next-chain c.args.self.now.read bytes c.requires right fine)
