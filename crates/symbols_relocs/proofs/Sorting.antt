-- A stable sort by the offset keeps the relocations at each offset, and their order.
use Rattle.std.proofs.Common.{◌≡◌, ℕ, List, ◌∙◌, sym, eqb, not, ◌&&◌, pos, arith}
use Rattle.std.specs.List.Sorted.{IsStableByKey, ties}
use Rattle.std.specs.Ordering.{nat_cmp, is_lt}
use Rattle.std.proofs.lemmas.List.Elements.{filter_agree}
use Rattle.std.proofs.lemmas.Bool.Decides.{nat_tests}
use Rattle.elf_objects.specs.declared.symbol.Reloc.{Reloc}
use Rattle.symbols_relocs.specs.Relocs.{IsIndexOf}

-- two offsets that neither order tells apart are equal
ties_are_equal : (a b : ℕ) → not (is_lt (nat_cmp a b)) && not (is_lt (nat_cmp b a)) ≡ eqb b a
ties_are_equal a b = grind (arith, nat_tests)

pub stable_is_index : (relocs sorted : List Reloc) → IsStableByKey (λ (r : Reloc). r.offset) nat_cmp relocs sorted → IsIndexOf relocs sorted
stable_is_index relocs sorted stable = record {
  same = λ off.
      let probe : Reloc = record { offset = off; kind = 0; sym = 0; addend = pos 0 } in
      let tied = λ (r : Reloc). ties (λ (x y : Reloc). is_lt (nat_cmp x.offset y.offset)) probe r in
      let agree : (r : Reloc) → tied r ≡ eqb r.offset off = λ r. ties_are_equal off r.offset in
      sym (filter_agree tied (λ (r : Reloc). eqb r.offset off) agree sorted)
      ∙ stable probe
      ∙ filter_agree tied (λ (r : Reloc). eqb r.offset off) agree relocs;
}
