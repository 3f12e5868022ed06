use Rattle.std.proofs.Common.{◌≡◌, ℕ, ◌<◌, Bool, true, List, ◌++◌, bytes_eq, filter, length, ap, sym, ◌∙◌, arith}
use Rattle.std.specs.List.{range_with_len, flat_map}
use Rattle.std.proofs.lemmas.Result.{err_from_is_err_and}
use Rattle.elf_objects.specs.Elf.{Elf}
use Rattle.elf_objects.specs.Contents.{section_at}
use Rattle.special_sections.specs.declared.fault.SpecialFault.{SpecialFault}
use Rattle.special_sections.specs.Kinds.{named_below, section_entries, section_faults}
use Rattle.special_sections.proofs.Gathered.{passing_more, passing_same, gathered_more}
use Rattle.special_sections.proofs.FirstFault.{tells_among_passing}
use Rattle.special_sections.proofs.read.read_all.Goals as goal
use Rattle.special_sections.proofs.read.read_all.Goals.{then-is_named+in_ok-read_section, else-is_named}

pub returns-in_err-read_section-clause-err : goal.returns-in_err-read_section-clause-err
returns-in_err-read_section-clause-err g c =
    let o : Elf = c.args.object.now in
    let p : ℕ → Bool = λ sec. bytes_eq (section_at o sec).name (g.F.Format.kind c.args.format.now).name in
    let passes : p c.loop-sec.sec ≡ true = ap (bytes_eq (section_at o c.loop-sec.sec).name) (sym c.name.ensures) ∙ sym c.is_named.ensures ∙ c.if-is_named.true in
    let inside : c.loop-sec.sec < length o.sections = omega (arith, c.sections-sec-end.ensures.value, c.loop-sec-test.true) in
    let q = err_from_is_err_and c.from_residual.result c.from_residual.ensures.1 in
    rw (q.1, q.2) (tells_among_passing (section_faults (g.F.Format.kind c.args.format.now) o) (length o.sections) c.loop-sec.sec inside p _ passes c.loop-sec.invariant.1 c.in_err-read_section.ensures.err)

pub loop-sec-preserved : goal.loop-sec-preserved
loop-sec-preserved g c =
    let o : Elf = c.args.object.now in
    let sec : ℕ = c.loop-sec.sec in
    let p : ℕ → Bool = λ sec. bytes_eq (section_at o sec).name (g.F.Format.kind c.args.format.now).name in
    let front : List ℕ = filter p (range_with_len 0 sec) in
    let f = section_entries (g.F.Format.kind c.args.format.now) o in
    let d : ℕ → List SpecialFault = section_faults (g.F.Format.kind c.args.format.now) o in
    let is_name : p sec ≡ c.is_named.result = ap (bytes_eq (section_at o sec).name) (sym c.name.ensures) ∙ sym c.is_named.ensures in
    elim c.if-is_named.branch [
      | then-is_named+in_ok-read_section w ↦
          let more = passing_more p sec (is_name ∙ w.if-is_named.true) in (
            ap (λ l. l.items) w.list-is
                ∙ w.in_ok-read_section.ensures.ok
                ∙ ap (λ xs. xs ++ f sec) c.loop-sec.invariant.0
                ∙ sym (gathered_more f front sec)
                ∙ ap (flat_map f) (sym more),
            ap (flat_map d) more
                ∙ gathered_more d front sec
                ∙ ap (λ xs. xs ++ d sec) c.loop-sec.invariant.1
                ∙ w.in_ok-read_section.ensures.right,
          )
      | else-is_named w ↦
          let same = passing_same p sec (is_name ∙ w.if-is_named.false) in
          (ap (λ l. l.items) w.list-is ∙ c.loop-sec.invariant.0 ∙ ap (flat_map f) (sym same), ap (flat_map d) same ∙ c.loop-sec.invariant.1)
    ]

pub returns : goal.returns
returns g c =
    let o : Elf = c.args.object.now in
    let kind = g.F.Format.kind c.args.format.now in
    let all : c.loop-sec.sec ≡ length o.sections = omega (arith, c.sections-sec-end.ensures.value) in
    record {
      ok = c.loop-sec.invariant.0 ∙ ap (λ (n : ℕ). flat_map (section_entries kind o) (named_below o kind.name n)) all;
      right = ap (λ (n : ℕ). flat_map (section_faults kind o) (named_below o kind.name n)) (sym all) ∙ c.loop-sec.invariant.1;
      err = tt;
    }
