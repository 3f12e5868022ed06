use Rattle.std.proofs.Common.{IfOk, IfErr, List, ℕ, subst, inr}
use Rattle.std.proofs.lemmas.Result.{err_from_is_err_and}
use Rattle.elf_objects.specs.Object.{FirstFault, IsObject, Refuses}
use Rattle.elf_objects.specs.Object.FirstFault.{table}
use Rattle.elf_objects.proofs.FirstFault.{only-well_formed}
use Rattle.elf_objects.proofs.object.Object.parse.Goals as goal

pub returns-in_err-headers-clause-err : goal.returns-in_err-headers-clause-err
returns-in_err-headers-clause-err c =
    let p = err_from_is_err_and c.from_residual.result c.from_residual.ensures.1 in
    rw (p.1, p.2) (inr (table (c.in_err-headers.ensures.err)))

pub returns : goal.returns
returns c =
    let e = c.in_ok-headers.ensures.ok in
    let err : IfErr c.read.result (Refuses (FirstFault c.args.bytes.now)) = subst (λ (b : List ℕ). IfErr c.read.result (Refuses (FirstFault b))) e c.read.ensures.err in
    record {
      ok = subst (λ (b : List ℕ). IfOk c.read.result (IsObject b)) e c.read.ensures.ok;
      err = err;
      only = only-well_formed c.args.bytes.now c.read.result err;
    }
