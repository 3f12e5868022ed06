use Rattle.std.proofs.Common.{◌≡◌, ℕ, ◌<◌, List, [], ◌∷◌, ◌++◌, None, map, slice_get, inr, ap, sym, ◌∙◌, append_assoc, arith}
use Rattle.std.specs.List.{range_with_len, flat_map}
use Rattle.std.proofs.lemmas.List.FromFn.{map-range_with_len_more}
use Rattle.elf_objects.specs.Elf.{Elf}
use Rattle.special_sections.specs.declared.fault.SpecialFault.{SpecialFault}
use Rattle.special_sections.specs.declared.fault.SpecialFault.TheVariants.{At}
use Rattle.special_sections.specs.Reasons.{fault_at}
use Rattle.special_sections.proofs.Gathered.{range_more, gathered_more, none_where_not}
use Rattle.special_sections.proofs.FirstFault.{tells_in_range}
use Rattle.special_sections.proofs.read.read_entries.Goals as goal

pub returns-in-Some-clause-err : goal.returns-in-Some-clause-err
returns-in-Some-clause-err g c =
    let o : Elf = c.args.section.now.object.now in
    let sec : ℕ = c.args.section.now.sec in
    let f : ℕ → List SpecialFault = λ e. fault_at sec e ((g.F.Format.kind c.args.format.now).why o sec e) in
    let n : ℕ = (g.F.Format.kind c.args.format.now).count o sec in
    let inside : c.loop-entry.entry < n = omega (arith, c.count-entry-end.ensures, c.loop-entry-test.true) in
    let told : SpecialFault = At sec c.loop-entry.entry c.in-Some.why in
    tells_in_range f n c.loop-entry.entry inside told c.loop-entry.invariant.1 (inr (ap (λ w. slice_get (fault_at sec c.loop-entry.entry w) 0) (sym c.in-Some.ensures)))

pub loop-entry-preserved : goal.loop-entry-preserved
loop-entry-preserved g c =
    let o : Elf = c.args.section.now.object.now in
    let sec : ℕ = c.args.section.now.sec in
    let e : ℕ = c.loop-entry.entry in
    let f : ℕ → List SpecialFault = λ e. fault_at sec e ((g.F.Format.kind c.args.format.now).why o sec e) in
    let k = (g.F.Format.kind c.args.format.now).entry o sec in
    let before = c.args.into.now.items in
    let none : (g.F.Format.kind c.args.format.now).why o sec e ≡ None = sym c.why.ensures ∙ none_where_not c.why.result c.in_default.not-Some in (
      c.in_ok-push.ensures.items
          ∙ ap (λ xs. xs ++ c.entry.result ∷ []) c.loop-entry.invariant.0
          ∙ append_assoc before (map k (range_with_len 0 e)) (c.entry.result ∷ [])
          ∙ ap (λ x. before ++ (map k (range_with_len 0 e) ++ x ∷ [])) c.entry.ensures
          ∙ ap (λ xs. before ++ xs) (sym (map-range_with_len_more k 0 e e (omega arith))),
      ap (flat_map f) (range_more e)
          ∙ gathered_more f (range_with_len 0 e) e
          ∙ ap (λ xs. xs ++ f e) c.loop-entry.invariant.1
          ∙ ap (fault_at sec e) none,
    )

pub returns : goal.returns
returns g c =
    let o : Elf = c.args.section.now.object.now in
    let sec : ℕ = c.args.section.now.sec in
    let kind = g.F.Format.kind c.args.format.now in
    let all : c.loop-entry.entry ≡ kind.count o sec = omega (arith, c.count-entry-end.ensures) in
    record {
      ok = c.loop-entry.invariant.0 ∙ ap (λ (n : ℕ). c.args.into.now.items ++ map (kind.entry o sec) (range_with_len 0 n)) all;
      right = ap (λ (n : ℕ). flat_map (λ e. fault_at sec e (kind.why o sec e)) (range_with_len 0 n)) (sym all) ∙ c.loop-entry.invariant.1;
      err = tt;
    }
