use Rattle.std.proofs.Common.{◌≡◌, Bool, List, false, sym, subst, ◌∙◌}
use Rattle.std.specs.Prelude.{◌↔◌, IsTrue, slice_index_or}
use Rattle.std.proofs.lemmas.List.{get_or_default}
use Rattle.std.proofs.lemmas.Option.{slice_get_within}
use Rattle.control_flow.specs.Kinds.{StaysDecoded}
use Rattle.control_flow.proofs.kinds.KindTable.stays.Goals as goal

pub returns : goal.returns
returns c = λ different decoded are own.
    let stay : List Bool = c.args.self.now.stay.items in
    let told : c.index.result.now ≡ slice_index_or stay c.args.insn false = c.index.ensures ∙ get_or_default stay c.args.insn c.index.result.now false c.requires in
    subst (λ (b : Bool). IsTrue b ↔ StaysDecoded decoded.op) (sym told) (are.stays c.args.insn decoded (slice_get_within different c.args.insn decoded own) own)
