-- The spelling of an instruction is read back, and what is read is one.
use Rattle.std.proofs.Common.{◌≡◌, ◌≢◌, ℕ, ℤ, pos, negsuc, zero, suc, ◌+◌, ◌-◌, ◌*◌, ◌/◌, ◌%◌, ◌<◌, ◌≤◌, ◌^◌, ◌⊎◌, Bool, true, false, cond, List, [], ◌∷◌, ◌++◌, length, take, drop, get_or, Option, Some, None, refl, sym, ◌∙◌, ap, subst, inl, inr, arith, append_assoc, length-append}
use Rattle.std.specs.Prelude.{◌==◌, ◌&&◌}
use Rattle.std.proofs.lemmas.Bool.{lt-ltb, le-ltb, le-leb, ltb-true, ltb-false, leb-true, eqb-true, ne_eqb, and_from, and_parts}
use Rattle.std.proofs.lemmas.Option.{none-some}
use Rattle.std.proofs.lemmas.List.{take-append-drop}
use Rattle.std.proofs.Math.Dec.{ltb, leb}
use Rattle.byteorder.specs.Endian.{little_number, little_bytes}
use Rattle.byteorder.specs.Numbers.{little_number-reads_back}
use Rattle.eh_frame.specs.declared.groups.Number.{Number}
use Rattle.eh_frame.specs.declared.rule.CfaReg.{CfaReg}
use Rattle.eh_frame.specs.declared.rule.CfaReg.TheVariants.{Rsp, Rbp}
use Rattle.eh_frame.specs.declared.instruction.Read.{Read}
use Rattle.eh_frame.specs.declared.instruction.Instruction.{Instruction}
use Rattle.eh_frame.specs.declared.instruction.Instruction.TheVariants.{Nop, AdvanceLoc, DefCfa, SavedReturn, UndefinedReturn, SavedRbp, SameRbp}
use Rattle.eh_frame.specs.Groups.{Groups}
use Rattle.eh_frame.specs.Spelling.{Spells, nop, advance_loc, advance_loc1, advance_loc2, advance_loc4, def_cfa, def_cfa_sf, def_cfa_sf_above, offset_return, undefined_return, offset_rbp, same_value_rbp, number_of, offset}
use Rattle.eh_frame.specs.ReadGroups.{read_number, read_groups}
use Rattle.eh_frame.specs.ReadInstruction.{read_instruction, read_operands, read_advance, read_def_cfa, read_def_cfa_sf, read_pair, register_of, def_cfa_by, def_cfa_in, def_cfa_sf_by, def_cfa_sf_in, saved_rbp_by, signed_offset}
use Rattle.eh_frame.proofs.GroupsRead.{AreBytes, BeginsWith, IsLimit, IsOfTwo, groups_sound, unsigned_read, signed_read}

-- Spelled, then read.

read_as : Instruction → ℕ → Option Read
read_as i n = Some (record { instruction = i; len = n })

as_long : (i : Instruction) (m n : ℕ) → m ≡ n → read_as i m ≡ read_as i n
as_long i m n e = ap (read_as i) e

short_move : (delta : ℕ) (rest : List ℕ) → 0 < delta → delta < 64 → read_instruction ((64 + delta) ∷ rest) ≡ read_as (AdvanceLoc delta) 1
unfolding read_instruction read_as
short_move delta rest h k =
    let zero_not : (64 + delta == 0x00) ≡ false = ne_eqb (64 + delta) 0x00 (λ e. omega arith) in
    let low : leb 0x41 (64 + delta) ≡ true = le-leb 0x41 (64 + delta) (omega arith) in
    let high : leb (64 + delta) 0x7F ≡ true = le-leb (64 + delta) 0x7F (omega arith) in
    let back : 64 + delta - 64 ≡ delta = omega arith in
    rw (zero_not, low, high, back) refl

moved : (width delta : ℕ) (rest : List ℕ) → delta < 256 ^ width → length (little_bytes width delta) ≡ width → read_advance (little_bytes width delta ++ rest) width ≡ read_as (AdvanceLoc delta) (1 + width)
unfolding read_as
moved width delta rest h k =
    let long : ltb (length (little_bytes width delta ++ rest)) width ≡ false = le-ltb _ _ (simp length-append (omega arith)) in
    let back : little_number width (little_bytes width delta ++ rest) ≡ delta = little_number-reads_back width delta rest h in
    rw (long, back) refl

register_read : (reg : CfaReg) → register_of (number_of reg) ≡ Some reg
register_read Rsp = refl
register_read Rbp = refl

offset_read : (i : Instruction) (n bound len : ℕ) → n < bound → cond (ltb n bound) (read_as i len) None ≡ read_as i len
offset_read i n bound len h = let e = lt-ltb n bound h in rw e refl

pub spelling_read : {i : Instruction} {s : List ℕ} → Spells i s → (rest : List ℕ) → read_instruction (s ++ rest) ≡ Some (record { instruction = i; len = length s })
unfolding read_instruction read_as
spelling_read nop rest = refl
spelling_read (advance_loc delta h k) rest = short_move delta rest h k
spelling_read (advance_loc1 delta h) rest = moved 1 delta rest (omega arith) refl
spelling_read (advance_loc2 delta h) rest = moved 2 delta rest (omega arith) refl
spelling_read (advance_loc4 delta h) rest = moved 4 delta rest (omega arith) refl
spelling_read (def_cfa reg n number h groups) rest =
    ap (λ (o : Option CfaReg). def_cfa_in o (number ++ rest)) (register_read reg)
    ∙ ap (def_cfa_by reg) (unsigned_read groups h rest)
    ∙ offset_read (DefCfa reg (offset false n)) n (2 ^ 32) (2 + length number) h
    ∙ as_long (DefCfa reg (offset false n)) (2 + length number) (suc (suc (length number))) (omega arith)
spelling_read (def_cfa_sf reg n number h groups) rest =
    ap (λ (o : Option CfaReg). def_cfa_sf_in o (number ++ rest)) (register_read reg)
    ∙ ap (def_cfa_sf_by reg) (signed_read groups h rest)
    ∙ offset_read (DefCfa reg (offset true n)) n (2 ^ 31) (2 + length number) h
    ∙ as_long (DefCfa reg (offset true n)) (2 + length number) (suc (suc (length number))) (omega arith)
spelling_read (def_cfa_sf_above reg n number h groups) rest =
    ap (λ (o : Option CfaReg). def_cfa_sf_in o (number ++ rest)) (register_read reg)
    ∙ ap (def_cfa_sf_by reg) (signed_read groups h rest)
    ∙ offset_read (DefCfa reg (offset false (n + 1))) n (2 ^ 31) (2 + length number) h
    ∙ as_long (DefCfa reg (offset false (n + 1))) (2 + length number) (suc (suc (length number))) (omega arith)
spelling_read offset_return rest = refl
spelling_read undefined_return rest = refl
spelling_read (offset_rbp n number h groups) rest =
    ap saved_rbp_by (unsigned_read groups h rest)
    ∙ offset_read (SavedRbp (offset true n)) n (2 ^ 32) (1 + length number) h
    ∙ as_long (SavedRbp (offset true n)) (1 + length number) (suc (length number)) (omega arith)
spelling_read same_value_rbp rest = refl

-- Read, then spelled.

-- some bytes begin with the spelling of the instruction that was read
pub record BeginsAs (r : Read) (bytes : List ℕ) : Type 0 where
  pub own : List ℕ
  pub behind : List ℕ
  pub whole : bytes ≡ own ++ behind
  pub spelled : Spells r.instruction own
  pub len : length own ≡ r.len

some_alike : {A : Type 0} {x y : A} → Some x ≡ Some y → x ≡ y
some_alike h = cc

split : (b : Bool) (x y : Option Read) (r : Read) → cond b x y ≡ Some r → ((b ≡ true) × (x ≡ Some r)) ⊎ ((b ≡ false) × (y ≡ Some r))
split true x y r h = inl (refl, h)
split false x y r h = inr (refl, h)

begins : (i : Instruction) (own behind : List ℕ) (n : ℕ) (r : Read) → Spells i own → length own ≡ n → read_as i n ≡ Some r → BeginsAs r (own ++ behind)
unfolding read_as
begins i own behind n r spelled long e =
    subst (λ (x : Read). BeginsAs x (own ++ behind)) (some_alike e) (record {
      own = own;
      behind = behind;
      whole = refl;
      spelled = spelled;
      len = long;
    })

pair_sound : (code operand : ℕ) (i : Instruction) (rest : List ℕ) (r : Read) → Spells i (code ∷ operand ∷ []) → read_pair rest operand i ≡ Some r → BeginsAs r (code ∷ rest)
unfolding read_as
pair_sound code operand i [] r s e = absurd (none-some _ e)
pair_sound code operand i (byte ∷ rest) r s e =
    elim (split (byte == operand) (read_as i 2) None r e) [
      | inl w ↦
          let same = eqb-true byte operand w.0 in
          subst (λ (b : ℕ). BeginsAs r (code ∷ b ∷ rest)) (sym same) (begins i (code ∷ operand ∷ []) rest 2 r s refl w.1)
      | inr w ↦ absurd (none-some _ w.1)
    ]

not_cut : (b : Bool) (x : Option Read) (r : Read) → b ≡ false → cond b None x ≡ Some r → x ≡ Some r
not_cut true x r e h = absurd (none-some _ h)
not_cut false x r e h = h

one_byte : (a n : ℕ) → a < 256 → n ≡ a → little_bytes 1 n ≡ a ∷ []
one_byte a n h e = let low : n % 256 ≡ a = omega arith in ap (λ (b : ℕ). b ∷ []) low

two_bytes : (a b n : ℕ) → a < 256 → b < 256 → n ≡ a + 256 * b → little_bytes 2 n ≡ a ∷ b ∷ []
two_bytes a b n ha hb h =
    let low : n % 256 ≡ a = omega arith in
    let high : n / 256 % 256 ≡ b = omega arith in
    cc (low, high)

pub four_bytes : (a b c d n : ℕ) → a < 256 → b < 256 → c < 256 → d < 256 → n ≡ a + 256 * (b + 256 * (c + 256 * d)) → little_bytes 4 n ≡ a ∷ b ∷ c ∷ d ∷ []
four_bytes a b c d n ha hb hc hd h =
    let one : n % 256 ≡ a = omega arith in
    let two : n / 256 % 256 ≡ b = omega arith in
    let three : n / 65536 % 256 ≡ c = omega arith in
    let four : n / 16777216 % 256 ≡ d = omega arith in
    cc (one, two, three, four)

one_move : (code : ℕ) (rest : List ℕ) (r : Read) → AreBytes rest → ((delta : ℕ) → delta < 2 ^ 8 → Spells (AdvanceLoc delta) (code ∷ little_bytes 1 delta)) → read_advance rest 1 ≡ Some r → BeginsAs r (code ∷ rest)
unfolding read_as
one_move code [] r are s e = absurd (none-some _ e)
one_move code (a ∷ rest) r are s e =
    let ha = are 0 in
    let n : ℕ = little_number 1 (a ∷ rest) in
    let is : n ≡ a = omega arith in
    let bytes = one_byte a n ha is in
    subst (λ (bs : List ℕ). BeginsAs r (code ∷ (bs ++ rest))) bytes
    (begins (AdvanceLoc n) (code ∷ little_bytes 1 n) rest 2 r (s n (omega arith)) refl (not_cut (ltb (length (a ∷ rest)) 1) (read_as (AdvanceLoc n) 2) r (le-ltb _ _ (omega arith)) e))

two_move : (code : ℕ) (rest : List ℕ) (r : Read) → AreBytes rest → ((delta : ℕ) → delta < 2 ^ 16 → Spells (AdvanceLoc delta) (code ∷ little_bytes 2 delta)) → read_advance rest 2 ≡ Some r → BeginsAs r (code ∷ rest)
unfolding read_as
two_move code [] r are s e = absurd (none-some _ e)
two_move code (a ∷ []) r are s e = absurd (none-some _ e)
two_move code (a ∷ b ∷ rest) r are s e =
    let ha = are 0 in
    let hb = are 1 in
    let n : ℕ = little_number 2 (a ∷ b ∷ rest) in
    let is : n ≡ a + 256 * b = omega arith in
    let bytes = two_bytes a b n ha hb is in
    subst (λ (bs : List ℕ). BeginsAs r (code ∷ (bs ++ rest))) bytes
    (begins (AdvanceLoc n) (code ∷ little_bytes 2 n) rest 3 r (s n (omega arith)) refl (not_cut (ltb (length (a ∷ b ∷ rest)) 2) (read_as (AdvanceLoc n) 3) r (le-ltb _ _ (omega arith)) e))

four_move : (code : ℕ) (rest : List ℕ) (r : Read) → AreBytes rest → ((delta : ℕ) → delta < 2 ^ 32 → Spells (AdvanceLoc delta) (code ∷ little_bytes 4 delta)) → read_advance rest 4 ≡ Some r → BeginsAs r (code ∷ rest)
unfolding read_as
four_move code [] r are s e = absurd (none-some _ e)
four_move code (a ∷ []) r are s e = absurd (none-some _ e)
four_move code (a ∷ b ∷ []) r are s e = absurd (none-some _ e)
four_move code (a ∷ b ∷ c ∷ []) r are s e = absurd (none-some _ e)
four_move code (a ∷ b ∷ c ∷ d ∷ rest) r are s e =
    let ha = are 0 in
    let hb = are 1 in
    let hc = are 2 in
    let hd = are 3 in
    let n : ℕ = little_number 4 (a ∷ b ∷ c ∷ d ∷ rest) in
    let is : n ≡ a + 256 * (b + 256 * (c + 256 * d)) = omega arith in
    let bytes = four_bytes a b c d n ha hb hc hd is in
    subst (λ (bs : List ℕ). BeginsAs r (code ∷ (bs ++ rest))) bytes
    (begins (AdvanceLoc n) (code ∷ little_bytes 4 n) rest 5 r (s n (omega arith)) refl (not_cut (ltb (length (a ∷ b ∷ c ∷ d ∷ rest)) 4) (read_as (AdvanceLoc n) 5) r (le-ltb _ _ (omega arith)) e))

AreBytes-tail : (a : ℕ) (bytes : List ℕ) → AreBytes (a ∷ bytes) → AreBytes bytes
AreBytes-tail a bytes are k = are (suc k)

-- the number at the beginning of at most five of some bytes
pub record HasNumber (limit : ℕ) (x : Number) (bytes : List ℕ) : Type 0 where
  pub own : List ℕ
  pub behind : List ℕ
  pub whole : bytes ≡ own ++ behind
  pub groups : Groups limit x.turned x.bits own
  pub len : length own ≡ x.len
  pub sign : IsLimit limit x.turned

pub take_bytes : (n : ℕ) (bytes : List ℕ) → AreBytes bytes → AreBytes (take n bytes)
take_bytes zero bytes are k = omega arith
take_bytes (suc n) [] are k = omega arith
take_bytes (suc n) (a ∷ bytes) are zero = are 0
take_bytes (suc n) (a ∷ bytes) are (suc k) = take_bytes n bytes (λ j. are (suc j)) k

number_sound : (limit : ℕ) (bytes : List ℕ) (x : Number) → IsOfTwo limit → AreBytes bytes → read_number bytes limit ≡ Some x → HasNumber limit x bytes
number_sound limit bytes x k are e =
    let found = groups_sound limit (take 5 bytes) x k (take_bytes 5 bytes are) e in
    record {
      own = found.own;
      behind = found.behind ++ drop 5 bytes;
      whole = sym (take-append-drop 5 bytes) ∙ ap (λ (bs : List ℕ). bs ++ drop 5 bytes) found.whole ∙ append_assoc found.own found.behind (drop 5 bytes);
      groups = found.groups;
      len = found.len;
      sign = found.sign;
    }

-- an instruction with a number as its last operand
numbered : (front : List ℕ) (bytes : List ℕ) (x : Number) (limit bound n : ℕ) (i : Instruction) (r : Read) → HasNumber limit x bytes → length front ≡ n → ((own : List ℕ) → x.bits < bound → Groups limit x.turned x.bits own → Spells i (front ++ own)) → cond (ltb x.bits bound) (read_as i (n + x.len)) None ≡ Some r → BeginsAs r (front ++ bytes)
unfolding read_as
numbered front bytes x limit bound n i r has long spells e =
    elim (split (ltb x.bits bound) (read_as i (n + x.len)) None r e) [
      | inl w ↦
          let l = has.len in
          subst (λ (bs : List ℕ). BeginsAs r bs) (append_assoc front has.own has.behind ∙ ap (λ (bs : List ℕ). front ++ bs) (sym has.whole))
          (begins i (front ++ has.own) has.behind (n + x.len) r (spells has.own (ltb-true _ _ w.0) has.groups) (simp length-append (omega arith)) w.1)
      | inr w ↦ absurd (none-some _ w.1)
    ]

not_turned : (turned : Bool) → IsLimit 128 turned → turned ≡ false
not_turned turned (inl e) = absurd (omega arith)
not_turned turned (inr e) = e.1

unsigned_groups : (x : Number) (own : List ℕ) → IsLimit 128 x.turned → Groups 128 x.turned x.bits own → Groups 128 false x.bits own
unsigned_groups x own k g = subst (λ (t : Bool). Groups 128 t x.bits own) (not_turned x.turned k) g

def_cfa_sound : (reg : CfaReg) (bytes : List ℕ) (r : Read) → AreBytes bytes → def_cfa_by reg (read_number bytes 128) ≡ Some r → BeginsAs r (0x0C ∷ number_of reg ∷ bytes)
unfolding read_as
def_cfa_sound reg bytes r are e = go (read_number bytes 128) refl e
  where
    go : (o : Option Number) → read_number bytes 128 ≡ o → def_cfa_by reg o ≡ Some r → BeginsAs r (0x0C ∷ number_of reg ∷ bytes)
    go None f g = absurd (none-some _ g)
    go (Some x) f g =
        let has = number_sound 128 bytes x (inr refl) are f in
        numbered (0x0C ∷ number_of reg ∷ []) bytes x 128 (2 ^ 32) 2 (DefCfa reg (offset false x.bits)) r has refl
        (λ own bound groups. def_cfa reg x.bits own bound (unsigned_groups x own has.sign groups)) g

def_cfa_sf_sound : (reg : CfaReg) (bytes : List ℕ) (r : Read) → AreBytes bytes → def_cfa_sf_by reg (read_number bytes 64) ≡ Some r → BeginsAs r (0x12 ∷ number_of reg ∷ bytes)
unfolding read_as
def_cfa_sf_sound reg bytes r are e = go (read_number bytes 64) refl e
  where
    spelled : (turned : Bool) (n : ℕ) (own : List ℕ) → n < 2 ^ 31 → Groups 64 turned n own → Spells (DefCfa reg (cond turned (offset false (n + 1)) (offset true n))) (0x12 ∷ number_of reg ∷ own)
    spelled true n own bound groups = def_cfa_sf_above reg n own bound groups
    spelled false n own bound groups = def_cfa_sf reg n own bound groups

    go : (o : Option Number) → read_number bytes 64 ≡ o → def_cfa_sf_by reg o ≡ Some r → BeginsAs r (0x12 ∷ number_of reg ∷ bytes)
    go None f g = absurd (none-some _ g)
    go (Some x) f g =
        let has = number_sound 64 bytes x (inl refl) are f in
        numbered (0x12 ∷ number_of reg ∷ []) bytes x 64 (2 ^ 31) 2 (DefCfa reg (signed_offset x)) r has refl
        (λ own bound groups. spelled x.turned x.bits own bound groups) g

saved_rbp_sound : (bytes : List ℕ) (r : Read) → AreBytes bytes → saved_rbp_by (read_number bytes 128) ≡ Some r → BeginsAs r (0x86 ∷ bytes)
unfolding read_as
saved_rbp_sound bytes r are e = go (read_number bytes 128) refl e
  where
    go : (o : Option Number) → read_number bytes 128 ≡ o → saved_rbp_by o ≡ Some r → BeginsAs r (0x86 ∷ bytes)
    go None f g = absurd (none-some _ g)
    go (Some x) f g =
        let has = number_sound 128 bytes x (inr refl) are f in
        numbered (0x86 ∷ []) bytes x 128 (2 ^ 32) 1 (SavedRbp (offset true x.bits)) r has refl
        (λ own bound groups. offset_rbp x.bits own bound (unsigned_groups x own has.sign groups)) g

-- the register that a number names
register_sound : (n : ℕ) (reg : CfaReg) → register_of n ≡ Some reg → n ≡ number_of reg
register_sound n reg e = go (n == 6) refl e
  where
    later : (b : Bool) → (n == 7) ≡ b → cond b (Some Rsp) None ≡ Some reg → n ≡ number_of reg
    later true t f = eqb-true n 7 t ∙ ap number_of (some_alike f)
    later false t f = absurd (none-some _ f)

    go : (b : Bool) → (n == 6) ≡ b → cond b (Some Rbp) (cond (n == 7) (Some Rsp) None) ≡ Some reg → n ≡ number_of reg
    go true t f = eqb-true n 6 t ∙ ap number_of (some_alike f)
    go false t f = later (n == 7) refl f

in_register : (code : ℕ) (read : Option CfaReg → List ℕ → Option Read) (sound : (reg : CfaReg) (bytes : List ℕ) (r : Read) → AreBytes bytes → read (Some reg) bytes ≡ Some r → BeginsAs r (code ∷ number_of reg ∷ bytes)) (none : (bytes : List ℕ) (r : Read) → read None bytes ≡ Some r → ⊥) (n : ℕ) (bytes : List ℕ) (r : Read) → AreBytes bytes → read (register_of n) bytes ≡ Some r → BeginsAs r (code ∷ n ∷ bytes)
in_register code read sound none n bytes r are e = go (register_of n) refl e
  where
    go : (o : Option CfaReg) → register_of n ≡ o → read o bytes ≡ Some r → BeginsAs r (code ∷ n ∷ bytes)
    go None f g = absurd (none bytes r g)
    go (Some reg) f g = subst (λ (m : ℕ). BeginsAs r (code ∷ m ∷ bytes)) (sym (register_sound n reg f)) (sound reg bytes r are g)

def_cfa_from : (rest : List ℕ) (r : Read) → AreBytes rest → read_def_cfa rest ≡ Some r → BeginsAs r (0x0C ∷ rest)
def_cfa_from [] r are e = absurd (none-some _ e)
def_cfa_from (n ∷ bytes) r are e = in_register 0x0C def_cfa_in def_cfa_sound (λ bs x f. none-some _ f) n bytes r (AreBytes-tail n bytes are) e

def_cfa_sf_from : (rest : List ℕ) (r : Read) → AreBytes rest → read_def_cfa_sf rest ≡ Some r → BeginsAs r (0x12 ∷ rest)
def_cfa_sf_from [] r are e = absurd (none-some _ e)
def_cfa_sf_from (n ∷ bytes) r are e = in_register 0x12 def_cfa_sf_in def_cfa_sf_sound (λ bs x f. none-some _ f) n bytes r (AreBytes-tail n bytes are) e

-- an instruction at its code
at_code : (code n : ℕ) (rest : List ℕ) (r : Read) → (code == n) ≡ true → BeginsAs r (n ∷ rest) → BeginsAs r (code ∷ rest)
at_code code n rest r e h = subst (λ (m : ℕ). BeginsAs r (m ∷ rest)) (sym (eqb-true code n e)) h

short_sound : (code : ℕ) (rest : List ℕ) (r : Read) → (leb 0x41 code && leb code 0x7F) ≡ true → read_as (AdvanceLoc (code - 64)) 1 ≡ Some r → BeginsAs r (code ∷ rest)
short_sound code rest r t e =
    let both = and_parts _ _ t in
    let low : 0x41 ≤ code = leb-true 0x41 code both.0 in
    let high : code ≤ 0x7F = leb-true code 0x7F both.1 in
    let back : 64 + (code - 64) ≡ code = omega arith in
    subst (λ (m : ℕ). BeginsAs r (m ∷ rest)) back (begins (AdvanceLoc (code - 64)) ((64 + (code - 64)) ∷ []) rest 1 r (advance_loc (code - 64) (omega arith) (omega arith)) refl e)

operands_sound : (code : ℕ) (rest : List ℕ) (r : Read) → AreBytes rest → read_operands code rest ≡ Some r → BeginsAs r (code ∷ rest)
unfolding read_as
operands_sound code rest r are e0 =
    elim (split (code == 0x00) _ _ r e0) [
      | inl w ↦ at_code code 0x00 rest r w.0 (begins Nop (0x00 ∷ []) rest 1 r nop refl w.1)
      | inr w0 ↦
          elim (split (leb 0x41 code && leb code 0x7F) _ _ r w0.1) [
            | inl w ↦ short_sound code rest r w.0 w.1
            | inr w1 ↦
                elim (split (code == 0x02) _ _ r w1.1) [
                  | inl w ↦ at_code code 0x02 rest r w.0 (one_move 0x02 rest r are advance_loc1 w.1)
                  | inr w2 ↦
                      elim (split (code == 0x03) _ _ r w2.1) [
                        | inl w ↦ at_code code 0x03 rest r w.0 (two_move 0x03 rest r are advance_loc2 w.1)
                        | inr w3 ↦
                            elim (split (code == 0x04) _ _ r w3.1) [
                              | inl w ↦ at_code code 0x04 rest r w.0 (four_move 0x04 rest r are advance_loc4 w.1)
                              | inr w4 ↦
                                  elim (split (code == 0x0C) _ _ r w4.1) [
                                    | inl w ↦ at_code code 0x0C rest r w.0 (def_cfa_from rest r are w.1)
                                    | inr w5 ↦
                                        elim (split (code == 0x12) _ _ r w5.1) [
                                          | inl w ↦ at_code code 0x12 rest r w.0 (def_cfa_sf_from rest r are w.1)
                                          | inr w6 ↦
                                              elim (split (code == 0x90) _ _ r w6.1) [
                                                | inl w ↦ at_code code 0x90 rest r w.0 (pair_sound 0x90 0x08 SavedReturn rest r offset_return w.1)
                                                | inr w7 ↦
                                                    elim (split (code == 0x07) _ _ r w7.1) [
                                                      | inl w ↦ at_code code 0x07 rest r w.0 (pair_sound 0x07 0x10 UndefinedReturn rest r undefined_return w.1)
                                                      | inr w8 ↦
                                                          elim (split (code == 0x08) _ _ r w8.1) [
                                                            | inl w ↦ at_code code 0x08 rest r w.0 (pair_sound 0x08 0x06 SameRbp rest r same_value_rbp w.1)
                                                            | inr w9 ↦
                                                                elim (split (code == 0x86) _ _ r w9.1) [
                                                                  | inl w ↦ at_code code 0x86 rest r w.0 (saved_rbp_sound rest r are w.1)
                                                                  | inr w10 ↦ absurd (none-some _ w10.1)
                                                                ]
                                                          ]
                                                    ]
                                              ]
                                        ]
                                  ]
                            ]
                      ]
                ]
          ]
    ]

pub reading_spelled : (bytes : List ℕ) (r : Read) → AreBytes bytes → read_instruction bytes ≡ Some r → BeginsAs r bytes
unfolding read_instruction
reading_spelled [] r are e = absurd (none-some _ e)
reading_spelled (code ∷ rest) r are e = operands_sound code rest r (AreBytes-tail code rest are) e
