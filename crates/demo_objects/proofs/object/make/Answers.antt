use Rattle.std.proofs.Common.{◌≡◌, ℕ, ◌+◌, ◌<◌, ◌^◌, List, length, sym, ap, subst, ◌∙◌, arith}
use Rattle.std.specs.Prelude.{IfOk}
use Rattle.std.proofs.lemmas.List.{length-map}
use Rattle.std.proofs.lemmas.Result.{IfOk-weaker}
use Rattle.elf_objects.specs.Contents.{elf_of}
use Rattle.elf_objects.specs.Object.{IsWellFormed}
use Rattle.demo_objects.specs.Object.{IsMadeFrom}
use Rattle.elf_write.specs.Layout.{NewEntry, new_names}
use Rattle.elf_write.specs.New.{entries, entry_of}
use Rattle.demo_objects.specs.Layout.{file_of}
use Rattle.demo_objects.specs.Made.{all_sections, made}
use Rattle.demo_objects.specs.Spec.{spec_of, symbol_of}
use Rattle.demo_objects.proofs.Can.{room}
use Rattle.demo_objects.proofs.Sizes.{AreAligned}
use Rattle.demo_objects.proofs.Said.{is-made}
use Rattle.demo_objects.proofs.WellFormed.{well-formed}
use Rattle.demo_objects.proofs.object.make.Goals as goal

pub all_sections-requires : goal.all_sections-requires
all_sections-requires c =
    let s = spec_of c.args.spec.now in
    let can = c.requires.laid_out in
    let r = room s can in
    let symbols = length-map c.args.spec.now.symbols.items symbol_of in
    let sections = length-map c.args.spec.now.sections.items entry_of in
    let few = can.few in
    let n = r.symbols in
    record {
      few = omega arith;
      few_symbols = omega arith;
      bind = λ k d h. (can.parts.symbols k d h).bind;
      kind = λ k d h. (can.parts.symbols k d h).kind;
      fits = r.strings;
      targets = λ k d h. (let t = (can.parts.relocs k d h).known in omega arith);
    }

pub file_of-requires : goal.file_of-requires
file_of-requires c =
    let s = spec_of c.args.spec.now in
    let can = c.requires.laid_out in
    let r = room s can in
    let is : entries c.deref.result.now ≡ all_sections s = ap entries c.deref.ensures.value ∙ c.in_ok-sections.ensures.all in
    let l : length c.deref.result.now ≡ length (entries c.deref.result.now) = sym (length-map c.deref.result.now entry_of) in
    let m : length (entries c.deref.result.now) ≡ length (all_sections s) = ap length is in
    let few = can.few in
    record {
      aligned = subst AreAligned (sym is) r.aligned;
      few = omega arith;
      names = subst (λ (es : List NewEntry). 1 + length (new_names es) < 2 ^ 32) (sym is) r.names;
      fits = subst (λ (es : List NewEntry). length (file_of es) < 2 ^ 32) (sym is) can.short;
    }

pub returns : goal.returns
returns c =
    let s = spec_of c.args.spec.now in
    let is : entries c.deref.result.now ≡ all_sections s = ap entries c.deref.ensures.value ∙ c.in_ok-sections.ensures.all in
    let layout : IfOk c.file_of.result (λ file. file.items ≡ made s) = subst (λ (es : List NewEntry). IfOk c.file_of.result (λ file. file.items ≡ file_of es)) is c.file_of.ensures in
    record {
      layout = layout;
      well_formed = IfOk-weaker c.file_of.result (λ file. file.items ≡ made s) (λ file. IsWellFormed file.items) (λ file e. subst IsWellFormed (sym e) (well-formed s c.requires)) layout;
      object = IfOk-weaker c.file_of.result (λ file. file.items ≡ made s) (λ file. IsMadeFrom s (elf_of file.items)) (λ file e. subst (λ (b : List ℕ). IsMadeFrom s (elf_of b)) (sym e) (is-made s c.requires)) layout;
    }
