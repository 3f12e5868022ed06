-- Record by record, the code reads the entries of a section.
use Rattle.std.proofs.Common.{◌≡◌, ◌≢◌, ℕ, zero, suc, ◌+◌, ◌-◌, ◌<◌, ◌≤◌, ◌⊎◌, Bool, true, false, List, [], ◌∷◌, ◌++◌, length, take, drop, get_or, refl, sym, ◌∙◌, ap, subst, inl, inr, arith, append_assoc, append-nil, length-append}
use Rattle.std.specs.Prelude.{All, IsPermutation, flat_map, filter}
use Rattle.std.specs.List.Sorted.{IsNonDecreasingBy}
use Rattle.std.proofs.lemmas.Bool.{cases_lt}
use Rattle.std.proofs.lemmas.List.{take-append-drop, drop-drop, drop_at, drop_all, take_more, drop_more, length-drop, get_or-drop}
use Rattle.std.proofs.lemmas.List.Concat.{flat_map-append}
use Rattle.std.proofs.lemmas.List.Elements.{All-nil, All-weaker, All-push, All-cons, All-tail}
use Rattle.std.proofs.lemmas.List.Sorted.{IsNonDecreasingBy-drop}
use Rattle.elf_objects.specs.declared.symbol.Reloc.{Reloc}
use Rattle.elf_objects.specs.Elf.{Elf}
use Rattle.elf_objects.specs.Contents.{section_at}
use Rattle.eh_frame.specs.declared.reading.Found.{Found}
use Rattle.eh_frame.specs.declared.fault.EhFault.{EhFault}
use Rattle.eh_frame.specs.declared.fault.EhFault.TheVariants.{BadReloc}
use Rattle.eh_frame.specs.declared.rule.PlacedRule.{PlacedRule}
use Rattle.eh_frame.specs.Records.{cie, terminator, entry_bytes, Entry, EntryAt, IsEntry, Entries, NamesSection, relocs_in, relocs_from, rules_of_entry}
use Rattle.eh_frame.specs.Records as records
use Rattle.eh_frame.specs.Faults.{RecordFault, FirstFault, HasFrames, Refuses, least_behind}
use Rattle.eh_frame.specs.Faults as faults
use Rattle.eh_frame.specs.Cursor.{relocs_below, AreFrom}
use Rattle.eh_frame.specs.Found.{IsFound, ReadsRecords}
use Rattle.eh_frame.specs.Followed.{ListsRules}
use Rattle.eh_frame.proofs.EntryLemmas.{entries_more, entry_length, least_more}
use Rattle.eh_frame.proofs.RelocOrder.{IsCursor, are_from, all_above}

-- So many bytes of a section are the CIE and entries, so many of its relocations theirs, and their rules are listed.
pub record RecordsRead (object : Elf) (relocs sorted : List Reloc) (body : List ℕ) (at next least : ℕ) (rules : List PlacedRule) : Type 0 where
  pub entries : List Entry
  pub own : List ℕ
  pub whole : body ≡ cie ++ (own ++ drop at body)
  pub here : at ≡ 24 + length own
  pub within : at ≤ length body
  pub each : Entries object relocs 24 0 entries own
  pub lower : least ≡ least_behind 0 entries
  pub cursor : IsCursor sorted next at
  pub told : rules ≡ flat_map rules_of_entry entries

pub none_read : (object : Elf) (relocs sorted : List Reloc) (body : List ℕ) → take 24 body ≡ cie → All (λ r. 24 ≤ r.offset) sorted → RecordsRead object relocs sorted body 24 0 0 []
none_read object relocs sorted body h k = record {
  entries = [];
  own = [];
  whole = sym (take-append-drop 24 body) ∙ ap (λ (bs : List ℕ). bs ++ drop 24 body) h;
  here = refl;
  within =
      let l : length body ≡ 24 + length (drop 24 body) = ap length (sym (take-append-drop 24 body) ∙ ap (λ (bs : List ℕ). bs ++ drop 24 body) h) ∙ length-append cie (drop 24 body) in
      omega arith;
  each = records.none 24 0;
  lower = refl;
  cursor = record { before = All-nil (λ (r : Reloc). r.offset < 24); behind = k };
  told = refl;
}

module _ (object : Elf) (relocs sorted : List Reloc) (body : List ℕ) (at next least : ℕ) (rules : List PlacedRule) (read : RecordsRead object relocs sorted body at next least rules) where
  -- the relocations that are left, of those in order
  pub left_relocs : IsPermutation relocs sorted → AreFrom relocs at (drop next sorted)
  left_relocs h = are_from relocs sorted next at h read.cursor

  -- one more entry
  module _ (found : Found) (new : List PlacedRule) (is : IsFound object relocs at least (drop at body) (drop next sorted) found) (lists : ListsRules found.sec found.size found.spelled.now rules new) (same : IsPermutation relocs sorted) where
    abbrev end : ℕ
    end = at + (17 + length found.spelled.now)

    abbrev entry : Entry
    entry = record { sec = found.sec; size = found.size; instructions = lists.instructions }

    abbrev own : List ℕ
    own = entry_bytes at found.size found.spelled.now

    own_entry : IsEntry at own found.size found.spelled.now []
    own_entry = record {
      whole = sym (append-nil (entry_bytes at found.size found.spelled.now));
      aligned = is.entry.aligned;
      short = is.entry.short;
      fits = is.entry.fits;
    }

    says : EntryAt object relocs at least entry found.spelled.now
    says = record {
      section = section_at object found.sec;
      names = is.names;
      size = is.order.whole;
      later = is.order.later;
      instructions = lists.read;
      inside = lists.inside;
    }

    further : Entries object relocs 24 0 (read.entries ++ entry ∷ []) (read.own ++ own)
    further = entries_more entry found.spelled.now own read.each
        (subst (λ (n : ℕ). IsEntry n own found.size found.spelled.now []) read.here own_entry)
        (subst (λ (n : ℕ). EntryAt object relocs (24 + length read.own) n entry found.spelled.now) read.lower
        (subst (λ (n : ℕ). EntryAt object relocs n least entry found.spelled.now) read.here says))

    whole : body ≡ cie ++ ((read.own ++ own) ++ drop end body)
    whole =
        read.whole
        ∙ ap (λ (bs : List ℕ). cie ++ (read.own ++ bs)) (is.entry.whole ∙ ap (λ (bs : List ℕ). entry_bytes at found.size found.spelled.now ++ bs) (drop-drop (17 + length found.spelled.now) at body))
        ∙ ap (λ (bs : List ℕ). cie ++ bs) (sym (append_assoc read.own (entry_bytes at found.size found.spelled.now) (drop (at + (17 + length found.spelled.now)) body)))

    within : end ≤ length body
    within = let l = length-drop at body in let inside = is.inside in let w = read.within in omega arith

    long : length (read.own ++ own) ≡ length read.own + (17 + length found.spelled.now)
    long = length-append read.own (entry_bytes at found.size found.spelled.now) ∙ ap (λ (n : ℕ). length read.own + n) (entry_length at found.size found.spelled.now)

    first_below : (xs : List Reloc) (r : Reloc) → relocs_below xs end ≡ r ∷ [] → All (λ r. end ≤ r.offset) (drop 1 xs) → (d : Reloc) → (get_or xs 0 d).offset < end
    first_below [] r e h d = cc
    first_below (x ∷ xs) r e h d =
        elim (cases_lt x.offset end) [
          | inl below ↦ below
          | inr above ↦
              let none : relocs_below (x ∷ xs) end ≡ [] = all_above end (x ∷ xs) (All-cons (λ (r : Reloc). end ≤ r.offset) x xs above h) in
              absurd (clash (sym none ∙ e))
        ]
      where
        clash : {a : Reloc} → [] ≡ (a ∷ []) → ⊥
        clash h = cc

    below : All (λ r. r.offset < end) (take (next + 1) sorted)
    below =
        let d : Reloc = is.names.reloc in
        let l = length-drop next sorted in
        let one = is.one in
        let inside : next < length sorted = omega arith in
        let front = All-weaker (λ (r : Reloc). r.offset < at) (λ (r : Reloc). r.offset < end) (λ r h. lower r h) (take next sorted) read.cursor.before in
        let at_next = first_below (drop next sorted) d ((left_relocs same).only end d (subst (λ (n : ℕ). relocs_in relocs at n ≡ d ∷ []) ends is.names.one)) behind d in
        let here : (get_or sorted next d).offset < end = subst (λ (r : Reloc). r.offset < end) (get_or-drop next sorted 0 d ∙ ap (λ (n : ℕ). get_or sorted n d) (let z : next + 0 ≡ next = omega arith in z)) at_next in
        subst (λ (xs : List Reloc). All (λ r. r.offset < end) xs) (sym (take_more sorted next d inside)) (All-push (λ (r : Reloc). r.offset < end) (take next sorted) (get_or sorted next d) front here)
      where
        ends : at + 17 + length found.spelled.now ≡ end
        ends = omega arith

        lower : (r : Reloc) → r.offset < at → r.offset < end
        lower r h = omega arith

        behind : All (λ r. end ≤ r.offset) (drop 1 (drop next sorted))
        behind = subst (λ (n : ℕ). All (λ r. n ≤ r.offset) (drop 1 (drop next sorted))) ends is.others

    above : All (λ r. end ≤ r.offset) (drop (next + 1) sorted)
    above =
        subst (λ (xs : List Reloc). All (λ r. end ≤ r.offset) xs) (drop-drop 1 next sorted)
        (subst (λ (n : ℕ). All (λ r. n ≤ r.offset) (drop 1 (drop next sorted))) ends is.others)
      where
        ends : at + 17 + length found.spelled.now ≡ end
        ends = omega arith

    pub one_read : RecordsRead object relocs sorted body (at + (17 + length found.spelled.now)) (next + 1) (found.sec + 1) new
    one_read = record {
      entries = read.entries ++ entry ∷ [];
      own = read.own ++ own;
      whole = whole;
      here = let h = read.here in let l = long in omega arith;
      within = within;
      each = further;
      lower = sym (least_more 0 read.entries entry);
      cursor = record { before = below; behind = above };
      told =
          lists.told
          ∙ ap (λ (rs : List PlacedRule). rs ++ rules_of_entry entry) read.told
          ∙ ap (λ (rs : List PlacedRule). flat_map rules_of_entry read.entries ++ rs) (sym (append-nil (rules_of_entry entry)))
          ∙ sym (flat_map-append rules_of_entry read.entries (entry ∷ []));
    }

  -- a fault of the next record is the first one
  pub fault_first : (fault : EhFault) → HasFrames object body relocs → relocs_in relocs 0 24 ≡ [] → RecordFault object relocs at least (drop at body) fault → FirstFault object fault
  fault_first fault has none wrong =
      faults.later relocs read.entries read.own (drop at body) fault
      (subst (λ (bs : List ℕ). HasFrames object bs relocs) read.whole has)
      none
      read.each
      (subst (λ (n : ℕ). RecordFault object relocs (24 + length read.own) n (drop at body) fault) read.lower
      (subst (λ (n : ℕ). RecordFault object relocs n least (drop at body) fault) read.here wrong))

  -- a relocation is left at the end
  pub left_over : IsPermutation relocs sorted → drop at body ≡ terminator → next < length sorted → RecordFault object relocs at least (drop at body) (BadReloc at)
  left_over same e h = faults.last_reloc e (λ none.
      let left = (left_relocs same).none.0 none in
      let l = length-drop next sorted in
      let z : length (drop next sorted) ≡ 0 = ap length left in
      absurd (omega arith))

  -- all is read
  pub all_read : IsPermutation relocs sorted → drop at body ≡ terminator → length sorted ≤ next → ReadsRecords object relocs (drop 24 body) rules
  all_read same e h = record {
    entries = read.entries;
    own = read.own;
    whole = ap (drop 24) read.whole ∙ drop_at cie (read.own ++ drop at body) 24 refl ∙ ap (λ (bs : List ℕ). read.own ++ bs) e;
    each = read.each;
    last = subst (λ (n : ℕ). relocs_from relocs n ≡ []) read.here ((left_relocs same).none.1 (drop_all next sorted h));
    told = read.told;
  }
