-- A number is the last of its chain.
use Rattle.std.proofs.Common.{◌≡◌, ◌<◌, ◌++◌, ◌∷◌, [], length, get_or, ap, ◌∙◌, arith}
use Rattle.std.proofs.lemmas.List.{get_or_read}
use Rattle.return_search.specs.Chained.{no_number}
use Rattle.return_search.proofs.Chaining.{chains_add}
use Rattle.return_search.proofs.chains.Chains.add.Goals as goal

pub returns-clause-added : goal.returns-clause-added
returns-clause-added c keys are =
    let heads = c.args.self.now.heads.items in
    let links = c.args.self.now.links.items in
    let key = c.args.key in
    let n = c.len-n.result in
    let inside : key < length heads = omega arith in
    let read : (c.index.result).now ≡ get_or heads key 0 = get_or_read heads key (c.index.result).now inside c.index.ensures 0 in
    let pushed : c.push.new.self.items ≡ links ++ get_or heads key 0 ∷ [] = c.in_ok-push.ensures.items ∙ ap (λ v. links ++ v ∷ []) read in
    let long : n ≡ length links = omega arith in
    let few : n < no_number = omega arith in
    rw pushed (chains_add heads links keys key n long few inside are)
