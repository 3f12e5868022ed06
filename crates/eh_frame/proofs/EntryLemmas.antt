-- Bytes tell the entries that they are.
use Rattle.std.proofs.Common.{◌≡◌, ◌≢◌, ℕ, zero, suc, ◌+◌, ◌-◌, ◌*◌, ◌/◌, ◌%◌, ◌<◌, ◌≤◌, ◌^◌, ◌⊎◌, List, [], ◌∷◌, ◌++◌, length, take, drop, Option, Some, None, pos, refl, sym, ◌∙◌, ap, subst, inl, inr, arith, append_assoc, append-nil, length-append}
use Rattle.std.specs.Prelude.{slice_get}
use Rattle.std.proofs.lemmas.Option.{none-some}
use Rattle.std.proofs.lemmas.List.{take_at, drop_at, append_cancel_right, nil_from_length}
use Rattle.byteorder.specs.Endian.{little_bytes}
use Rattle.elf_objects.specs.declared.symbol.Home.{Home}
use Rattle.elf_objects.specs.declared.symbol.Home.TheVariants as home
use Rattle.elf_objects.specs.declared.symbol.Reloc.{Reloc}
use Rattle.elf_objects.specs.Elf.{Elf, SectionEntry}
use Rattle.elf_objects.specs.Contents.{symbol_at}
use Rattle.orc_bytes.proofs.OneList.{symbol_home}
use Rattle.eh_frame.specs.declared.instruction.Instruction.{Instruction}
use Rattle.eh_frame.specs.declared.instruction.Read.{Read}
use Rattle.eh_frame.specs.Spelling.{Spells, SpellsAll}
use Rattle.eh_frame.specs.Spelling as spelling
use Rattle.eh_frame.specs.ReadInstruction.{read_instruction}
use Rattle.eh_frame.specs.Records.{entry_bytes, terminator, Entry, EntryAt, IsEntry, Entries, NamesSection}
use Rattle.eh_frame.specs.Records as records
use Rattle.eh_frame.specs.Faults.{least_behind}
use Rattle.eh_frame.proofs.InstructionsRead.{spelling_read}

-- Lists in two parts.

pub same_front : {X : Type 0} (a b x y : List X) → length a ≡ length b → a ++ x ≡ b ++ y → (a ≡ b) × (x ≡ y)
same_front a b x y l e = (
  (sym (take_at a x (length a) refl) ∙ ap (take (length a)) e ∙ take_at b y (length a) (sym l)),
  (sym (drop_at a x (length a) refl) ∙ ap (drop (length a)) e ∙ drop_at b y (length a) (sym l)),
)

pub front_nil : {X : Type 0} (a x : List X) → a ++ x ≡ x → a ≡ []
front_nil a x e = nil_from_length a (let l : length a + length x ≡ length x = sym (length-append a x) ∙ ap length e in omega arith)

-- Instructions.

some_alike : {A : Type 0} {x y : A} → Some x ≡ Some y → x ≡ y
some_alike h = cc

-- two spellings at the beginning of the same bytes are one
pub one_spelling : (i j : Instruction) (a b x y : List ℕ) → Spells i a → Spells j b → a ++ x ≡ b ++ y → (i ≡ j) × (a ≡ b) × (x ≡ y)
one_spelling i j a b x y s t e =
    let read : Some (record { instruction = i; len = length a }) ≡ Some (record { instruction = j; len = length b }) = sym (spelling_read s x) ∙ ap read_instruction e ∙ spelling_read t y in
    let same = some_alike read in
    let parts = same_front a b x y (ap (λ (r : Read). r.len) same) e in
    (ap (λ (r : Read). r.instruction) same, parts.0, parts.1)

pub spelling_long : (i : Instruction) (x : List ℕ) → Spells i [] → ⊥
unfolding read_instruction
spelling_long i x s = none-some _ (spelling_read s [])

-- instructions that begin with others
pub record GoesOn (js is : List Instruction) (left : List ℕ) : Type 0 where
  pub further : List Instruction
  pub whole : js ≡ is ++ further
  pub spelled : SpellsAll further left

pub spells_follow : {is js : List Instruction} {a b : List ℕ} (left : List ℕ) → SpellsAll is a → SpellsAll js b → b ≡ a ++ left → GoesOn js is left
spells_follow {is} {js} {a} {b} left spelling.none all e = record { further = js; whole = refl; spelled = subst (λ (bs : List ℕ). SpellsAll js bs) e all }
spells_follow left (spelling.next i is own bytes s further) spelling.none e =
    absurd (long own s (sym (append_assoc own bytes left) ∙ sym e))
  where
    nothing : (xs ys : List ℕ) → xs ++ ys ≡ [] → xs ≡ []
    nothing [] ys h = refl
    nothing (x ∷ xs) ys h = cc

    long : (own : List ℕ) → Spells i own → own ++ (bytes ++ left) ≡ [] → ⊥
    long own s h = spelling_long i [] (subst (λ (bs : List ℕ). Spells i bs) (nothing own (bytes ++ left) h) s)
spells_follow left (spelling.next i is own bytes s further) (spelling.next j js own' bytes' t others) e =
    let same = one_spelling j i own' own bytes' (bytes ++ left) t s (e ∙ append_assoc own bytes left) in
    let rest = spells_follow left further others same.2 in
    record {
      further = rest.further;
      whole = ap (λ (k : Instruction). k ∷ js) same.0 ∙ ap (λ (ks : List Instruction). i ∷ ks) rest.whole;
      spelled = rest.spelled;
    }

-- Records.

four_same : (m n : ℕ) → m < 2 ^ 32 → n < 2 ^ 32 → m % 256 ≡ n % 256 → m / 256 % 256 ≡ n / 256 % 256 → m / 65536 % 256 ≡ n / 65536 % 256 → m / 16777216 % 256 ≡ n / 16777216 % 256 → m ≡ n
four_same m n h k a b c d = omega arith

-- two entries are one
pub record IsSame (n n' : ℕ) (xs xs' ys ys' : List ℕ) : Type 0 where
  pub size : n ≡ n'
  pub spelled : xs ≡ xs'
  pub behind : ys ≡ ys'

pub entry_length : (at size : ℕ) (spelled : List ℕ) → length (entry_bytes at size spelled) ≡ 17 + length spelled
unfolding entry_bytes
entry_length at size spelled = omega arith

record Heads (m n size size' : ℕ) (xs ys : List ℕ) : Type 0 where
  l0 : m % 256 ≡ n % 256
  l1 : m / 256 % 256 ≡ n / 256 % 256
  l2 : m / 65536 % 256 ≡ n / 65536 % 256
  l3 : m / 16777216 % 256 ≡ n / 16777216 % 256
  s0 : size % 256 ≡ size' % 256
  s1 : size / 256 % 256 ≡ size' / 256 % 256
  s2 : size / 65536 % 256 ≡ size' / 65536 % 256
  s3 : size / 16777216 % 256 ≡ size' / 16777216 % 256
  tail : xs ≡ ys

heads : (at m n size size' : ℕ) (xs ys : List ℕ) → little_bytes 4 m ++ (little_bytes 4 (at + 4) ++ (little_bytes 4 0 ++ (little_bytes 4 size ++ 0 ∷ xs))) ≡ little_bytes 4 n ++ (little_bytes 4 (at + 4) ++ (little_bytes 4 0 ++ (little_bytes 4 size' ++ 0 ∷ ys))) → Heads m n size size' xs ys
heads at m n size size' xs ys e = record { l0 = cc; l1 = cc; l2 = cc; l3 = cc; s0 = cc; s1 = cc; s2 = cc; s3 = cc; tail = cc }

same_record : (at size size' : ℕ) (spelled spelled' behind behind' : List ℕ) → 17 + length spelled < 2 ^ 32 → 17 + length spelled' < 2 ^ 32 → size < 2 ^ 32 → size' < 2 ^ 32 → entry_bytes at size spelled ++ behind ≡ entry_bytes at size' spelled' ++ behind' → IsSame size size' spelled spelled' behind behind'
unfolding entry_bytes
same_record at size size' spelled spelled' behind behind' h h' k k' e =
    let parts = heads at (13 + length spelled) (13 + length spelled') size size' (spelled ++ behind) (spelled' ++ behind') e in
    let long : 13 + length spelled ≡ 13 + length spelled' = four_same (13 + length spelled) (13 + length spelled') (omega arith) (omega arith) parts.l0 parts.l1 parts.l2 parts.l3 in
    let rest = same_front spelled spelled' behind behind' (omega arith) parts.tail in
    record { size = four_same size size' k k' parts.s0 parts.s1 parts.s2 parts.s3; spelled = rest.0; behind = rest.1 }

-- two entries at the beginning of the same bytes are one
pub one_entry : (at : ℕ) (bytes : List ℕ) (size size' : ℕ) (spelled spelled' behind behind' : List ℕ) → IsEntry at bytes size spelled behind → IsEntry at bytes size' spelled' behind' → IsSame size size' spelled spelled' behind behind'
one_entry at bytes size size' spelled spelled' behind behind' one two =
    same_record at size size' spelled spelled' behind behind' one.short two.short one.fits two.fits (sym one.whole ∙ two.whole)

-- with more bytes behind it
pub entry_before : (at : ℕ) (bytes : List ℕ) (size : ℕ) (spelled behind more : List ℕ) → IsEntry at bytes size spelled behind → IsEntry at (bytes ++ more) size spelled (behind ++ more)
entry_before at bytes size spelled behind more one = record {
  whole = ap (λ (bs : List ℕ). bs ++ more) one.whole ∙ append_assoc (entry_bytes at size spelled) behind more;
  aligned = one.aligned;
  short = one.short;
  fits = one.fits;
}

pub entry_bytes_length : (at : ℕ) (bytes : List ℕ) (size : ℕ) (spelled behind : List ℕ) → IsEntry at bytes size spelled behind → length bytes ≡ 17 + length spelled + length behind
entry_bytes_length at bytes size spelled behind one =
    ap length one.whole ∙ length-append (entry_bytes at size spelled) behind ∙ ap (λ (n : ℕ). n + length behind) (entry_length at size spelled)

-- an entry is no terminator
pub no_terminator : (at : ℕ) (size : ℕ) (spelled behind : List ℕ) → IsEntry at terminator size spelled behind → ⊥
no_terminator at size spelled behind one = let l = entry_bytes_length at terminator size spelled behind one in omega arith

-- a relocation names one section
pub one_section : (object : Elf) (relocs : List Reloc) (at end sec sec' : ℕ) (section section' : SectionEntry) → NamesSection object relocs at end sec section → NamesSection object relocs at end sec' section' → (sec ≡ sec') × (section ≡ section')
one_section object relocs at end sec sec' section section' one two =
    let listed : (one.reloc ∷ []) ≡ (two.reloc ∷ []) = sym one.one ∙ two.one in
    let same : one.reloc ≡ two.reloc = first listed in
    let here : home.Section sec ≡ home.Section sec' =
    sym (symbol_home object sec one.reloc.sym one.address.symbol.symbol)
    ∙ ap (λ (r : Reloc). (symbol_at object r.sym).home) same
    ∙ symbol_home object sec' two.reloc.sym two.address.symbol.symbol in
    let number : sec ≡ sec' = same_number here in
    (number, some_alike (sym one.address.symbol.at ∙ ap (λ (k : ℕ). slice_get object.sections k) number ∙ two.address.symbol.at))
  where
    first : {a b : Reloc} → (a ∷ []) ≡ (b ∷ []) → a ≡ b
    first h = cc

    same_number : {i j : ℕ} → home.Section i ≡ home.Section j → i ≡ j
    same_number h = cc

-- Entries that begin with others.
pub record EntriesGoOn (object : Elf) (relocs : List Reloc) (at least : ℕ) (all front : List Entry) (rest : List ℕ) : Type 0 where
  pub further : List Entry
  pub bytes : List ℕ
  pub whole : all ≡ front ++ further
  pub left : rest ≡ bytes ++ terminator
  pub each : Entries object relocs at least further bytes

moved_entries : {object : Elf} {relocs : List Reloc} {at at' least least' : ℕ} {es : List Entry} {bytes : List ℕ} → at ≡ at' → least ≡ least' → Entries object relocs at least es bytes → Entries object relocs at' least' es bytes
moved_entries {object} {relocs} {at} {at'} {least} {least'} {es} {bytes} e f h =
    subst (λ (n : ℕ). Entries object relocs at' n es bytes) f (subst (λ (n : ℕ). Entries object relocs n least es bytes) e h)

moved_goes_on : {object : Elf} {relocs : List Reloc} {at at' least : ℕ} {all front : List Entry} {rest : List ℕ} → at ≡ at' → EntriesGoOn object relocs at least all front rest → EntriesGoOn object relocs at' least all front rest
moved_goes_on {object} {relocs} {at} {at'} {least} {all} {front} {rest} e h = subst (λ (n : ℕ). EntriesGoOn object relocs n least all front rest) e h

entry_alike : (a b : Entry) → a.sec ≡ b.sec → a.size ≡ b.size → a.instructions ≡ b.instructions → a ≡ b
entry_alike a b e f g = made a.sec b.sec a.size b.size a.instructions b.instructions e f g
  where
    made : (s s' n n' : ℕ) (is is' : List Instruction) → s ≡ s' → n ≡ n' → is ≡ is' → ◌≡◌ {A = Entry} (record { sec = s; size = n; instructions = is }) (record { sec = s'; size = n'; instructions = is' })
    made s s' n n' is is' e f g = cc

no_instructions : {is : List Instruction} {bytes : List ℕ} → SpellsAll is bytes → bytes ≡ [] → is ≡ []
no_instructions spelling.none e = refl
no_instructions (spelling.next i is own bytes s further) e = absurd (spelling_long i [] (subst (λ (bs : List ℕ). Spells i bs) (nothing own bytes e) s))
  where
    nothing : (xs ys : List ℕ) → xs ++ ys ≡ [] → xs ≡ []
    nothing [] ys h = refl
    nothing (x ∷ xs) ys h = cc

pub one_list : {is js : List Instruction} {a b : List ℕ} → SpellsAll is a → SpellsAll js b → b ≡ a → js ≡ is
one_list {is} {js} {a} {b} s t e =
    let on = spells_follow [] s t (e ∙ sym (append-nil a)) in
    on.whole ∙ ap (λ (ks : List Instruction). is ++ ks) (no_instructions on.spelled refl) ∙ append-nil is

pub entries_follow : {object : Elf} {relocs : List Reloc} {at least : ℕ} {es gs : List Entry} {front ys : List ℕ} (rest : List ℕ) → Entries object relocs at least es front → Entries object relocs at least gs ys → front ++ rest ≡ ys ++ terminator → EntriesGoOn object relocs (at + length front) (least_behind least es) gs es rest
entries_follow {object} {relocs} {at} {least} {es} {gs} {front} {ys} rest (records.none a l) all e =
    moved_goes_on (let n : at ≡ at + 0 = omega arith in n) (record { further = gs; bytes = ys; whole = refl; left = e; each = all })
entries_follow {object} {relocs} {at} {least} {es} {gs} {front} {ys} rest (records.next a l entry entries spelled bytes behind own said further) (records.none a' l') e =
    let long = entry_bytes_length at front entry.size spelled behind own in
    let short : length front + length rest ≡ 4 = sym (length-append front rest) ∙ ap length e in
    absurd (omega arith)
entries_follow {object} {relocs} {at} {least} {es} {gs} {front} {ys} rest (records.next a l entry entries spelled bytes behind own said further) (records.next a' l' entry' entries' spelled' bytes' behind' own' said' further') e =
    let mine : IsEntry at (front ++ rest) entry.size spelled (behind ++ rest) = entry_before at front entry.size spelled behind rest own in
    let other : IsEntry at (front ++ rest) entry'.size spelled' (behind' ++ terminator) = subst (λ (bs : List ℕ). IsEntry at bs entry'.size spelled' (behind' ++ terminator)) (sym e) (entry_before at ys entry'.size spelled' behind' terminator own') in
    let same = one_entry at (front ++ rest) entry.size entry'.size spelled spelled' (behind ++ rest) (behind' ++ terminator) mine other in
    let names' : NamesSection object relocs at (at + 17 + length spelled) entry'.sec said'.section = subst (λ (bs : List ℕ). NamesSection object relocs at (at + 17 + length bs) entry'.sec said'.section) (sym same.spelled) said'.names in
    let sections = one_section object relocs at (at + 17 + length spelled) entry.sec entry'.sec said.section said'.section said.names names' in
    let alike : entry' ≡ entry = entry_alike entry' entry (sym sections.0) (sym same.size) (one_list said.instructions said'.instructions (sym same.spelled)) in
    let at_same : at + 17 + length spelled' ≡ at + 17 + length spelled = ap (λ (bs : List ℕ). at + 17 + length bs) (sym same.spelled) in
    let least_same : entry'.sec + 1 ≡ entry.sec + 1 = ap (λ (n : ℕ). n + 1) (sym sections.0) in
    let on = entries_follow rest further (moved_entries at_same least_same further') same.behind in
    let long = entry_bytes_length at front entry.size spelled behind own in
    let here : at + 17 + length spelled + length behind ≡ at + length front = omega arith in
    moved_goes_on here (record {
      further = on.further;
      bytes = on.bytes;
      whole = ap (λ (x : Entry). x ∷ entries') alike ∙ ap (λ (xs : List Entry). entry ∷ xs) on.whole;
      left = on.left;
      each = on.each;
    })

-- one more entry behind others
pub entries_more : {object : Elf} {relocs : List Reloc} {at least : ℕ} {es : List Entry} {front : List ℕ} (entry : Entry) (spelled own : List ℕ) → Entries object relocs at least es front → IsEntry (at + length front) own entry.size spelled [] → EntryAt object relocs (at + length front) (least_behind least es) entry spelled → Entries object relocs at least (es ++ entry ∷ []) (front ++ own)
entries_more {object} {relocs} {at} {least} {es} {front} entry spelled own (records.none a l) is said =
    let here : at + 0 ≡ at = omega arith in
    records.next at least entry [] spelled own []
    (subst (λ (n : ℕ). IsEntry n own entry.size spelled []) here is)
    (subst (λ (n : ℕ). EntryAt object relocs n least entry spelled) here said)
    (records.none (at + 17 + length spelled) (entry.sec + 1))
entries_more {object} {relocs} {at} {least} {es} {front} entry spelled own (records.next a l first entries spelled' bytes behind own' said' further) is said =
    let long = entry_bytes_length at front first.size spelled' behind own' in
    let here : at + length front ≡ at + 17 + length spelled' + length behind = omega arith in
    records.next at least first (entries ++ entry ∷ []) spelled' (front ++ own) (behind ++ own)
    (entry_before at front first.size spelled' behind own own')
    said'
    (entries_more entry spelled own further
    (subst (λ (n : ℕ). IsEntry n own entry.size spelled []) here is)
    (subst (λ (n : ℕ). EntryAt object relocs n (least_behind (first.sec + 1) entries) entry spelled) here said))

pub no_entries : {object : Elf} {relocs : List Reloc} {at least : ℕ} {es : List Entry} {bytes : List ℕ} → Entries object relocs at least es bytes → bytes ≡ [] → es ≡ []
no_entries (records.none a l) e = refl
no_entries {bytes = bytes} (records.next a l entry entries spelled bs behind own said further) e =
    let long = entry_bytes_length a bytes entry.size spelled behind own in
    let short : length bytes ≡ 0 = ap length e in
    absurd (omega arith)

pub least_more : (least : ℕ) (es : List Entry) (entry : Entry) → least_behind least (es ++ entry ∷ []) ≡ entry.sec + 1
least_more least [] entry = refl
least_more least (e ∷ es) entry = least_more (e.sec + 1) es entry
