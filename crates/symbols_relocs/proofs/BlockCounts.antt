-- How many relocations are below the beginning of each block of offsets.
use Rattle.std.proofs.Common.{◌≡◌, ◌<◌, ◌*◌, ◌++◌, [], ◌∷◌, ℕ, Some, List, length, get_or, arith, inl, inr, sym, ap, subst, ◌∙◌}
use Rattle.std.proofs.lemmas.Bool.{cases_lt}
use Rattle.std.proofs.lemmas.List.{get_or_append_left, get_or_push, length_push}
use Rattle.std.proofs.lemmas.Option.{get_or_from_slice_get, slice_get-get_or, slice_get_within}
use Rattle.elf_objects.specs.declared.symbol.Reloc.{Reloc}
use Rattle.symbols_relocs.specs.RelocCounts.{AreBelow, CountBlocks}

-- with one block more, whose beginning so many are below
pub one_more : (relocs : List Reloc) (near : List ℕ) (n : ℕ) → CountBlocks relocs near → AreBelow relocs n (32 * length near) → CountBlocks relocs (near ++ n ∷ [])
one_more relocs near n counts new block count is =
    let within : block < length (near ++ n ∷ []) = slice_get_within (near ++ n ∷ []) block count is in
    let len = length_push near n in
    let get : get_or (near ++ n ∷ []) block 0 ≡ count = get_or_from_slice_get (near ++ n ∷ []) block count 0 is in
    elim (cases_lt block (length near)) [
      | inl lt ↦ counts block count (slice_get-get_or near block 0 lt ∙ ap Some (sym (get_or_append_left near (n ∷ []) 0 block lt) ∙ get))
      | inr ge ↦
          let e : length near ≡ block = omega (arith, within, len, ge) in
          let v : n ≡ count = sym (get_or_push near n 0 block e) ∙ get in
          subst (λ b. AreBelow relocs count (32 * b)) e (subst (λ m. AreBelow relocs m (32 * length near)) v new)
    ]
