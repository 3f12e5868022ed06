-- Instruction by instruction, the code follows an entry's instructions and lists their rules.
use Rattle.std.proofs.Common.{◌≡◌, ◌≢◌, ℕ, zero, suc, ◌+◌, ◌-◌, ◌<◌, ◌≤◌, ◌⊎◌, Bool, true, false, cond, List, [], ◌∷◌, ◌++◌, length, take, drop, get_or, Option, Some, None, refl, sym, ◌∙◌, ap, subst, inl, inr, arith, append_assoc, append-nil, length-append}
use Rattle.std.proofs.lemmas.Bool.{le-leb, leb-true}
use Rattle.std.proofs.lemmas.Option.{none-some}
use Rattle.std.proofs.lemmas.List.{take-append-drop, take_at, take_all, length-take-le, length-drop, get_or-drop}
use Rattle.std.proofs.Math.Dec.{leb}
use Rattle.eh_frame.specs.declared.rule.PlacedRule.{PlacedRule}
use Rattle.eh_frame.specs.declared.instruction.Instruction.{Instruction}
use Rattle.eh_frame.specs.declared.instruction.Read.{Read}
use Rattle.eh_frame.specs.declared.state.FrameState.{FrameState}
use Rattle.eh_frame.specs.declared.rules.Followed.{Followed}
use Rattle.eh_frame.specs.Spelling.{Spells, SpellsAll, none, next}
use Rattle.eh_frame.specs.Rules.{after, moves, moves_all, rule_at, listed}
use Rattle.eh_frame.specs.ReadInstruction.{read_instruction}
use Rattle.eh_frame.specs.Followed.{first_followed, moved_on, moved_rules, read_within, kept_within, ListsRules}
use Rattle.eh_frame.specs.Faults.{StopsAt}
use Rattle.eh_frame.proofs.GroupsRead.{AreBytes}
use Rattle.eh_frame.proofs.InstructionsRead.{spelling_read, reading_spelled, BeginsAs}
use Rattle.eh_frame.proofs.EntryLemmas.{spelling_long}
use Rattle.eh_frame.proofs.Listing.{lists, lists_listed}

-- So many bytes are instructions that were followed, and what is still listed behind `new` completes the rules behind `old`.
pub record Progress (sec size : ℕ) (spelled : List ℕ) (pos : ℕ) (f : Followed) (old new : List PlacedRule) : Type 0 where
  pub before : List Instruction
  pub read : SpellsAll before (take pos spelled)
  pub location : f.location ≡ moves_all before
  pub within : pos ≤ length spelled
  pub inside : f.location ≤ size
  pub told : (todo : List Instruction) → new ++ lists sec size todo f ≡ old ++ lists sec size (before ++ todo) first_followed

pub no_progress : (sec size : ℕ) (spelled : List ℕ) (old : List PlacedRule) → Progress sec size spelled 0 first_followed old old
no_progress sec size spelled old = record {
  before = [];
  read = none;
  location = refl;
  within = omega arith;
  inside = omega arith;
  told = λ todo. refl;
}

-- one more instruction behind others
pub spells_more : {is : List Instruction} {a : List ℕ} (i : Instruction) (b : List ℕ) → SpellsAll is a → Spells i b → SpellsAll (is ++ i ∷ []) (a ++ b)
spells_more i b none s = subst (λ (bs : List ℕ). SpellsAll (i ∷ []) bs) (append-nil b) (next i [] b [] s none)
spells_more i b (next j js own bytes t further) s =
    subst (λ (bs : List ℕ). SpellsAll (j ∷ (js ++ i ∷ [])) bs) (sym (append_assoc own bytes b)) (next j (js ++ i ∷ []) own (bytes ++ b) t (spells_more i b further s))

pub moves_more : (is : List Instruction) (i : Instruction) → moves_all (is ++ i ∷ []) ≡ moves_all is + moves i
moves_more [] i = omega arith
moves_more (j ∷ js) i = let e = moves_more js i in omega arith

-- what was read within a room
pub within_room : (o : Option Read) (room : ℕ) (r : Read) → kept_within o room ≡ Some r → (o ≡ Some r) × (moves r.instruction ≤ room)
within_room None room r e = absurd (none-some _ e)
within_room (Some x) room r e = go (leb (moves x.instruction) room) refl e
  where
    some_alike : {A : Type 0} {x y : A} → Some x ≡ Some y → x ≡ y
    some_alike h = cc

    go : (b : Bool) → leb (moves x.instruction) room ≡ b → cond b (Some x) None ≡ Some r → (Some x ≡ Some r) × (moves r.instruction ≤ room)
    go true t f = (f, subst (λ (y : Read). moves y.instruction ≤ room) (some_alike f) (leb-true _ _ t))
    go false t f = absurd (none-some _ f)

-- it takes a byte at least
pub read_some : (bytes : List ℕ) (room : ℕ) (r : Read) → AreBytes bytes → read_within bytes room ≡ Some r → 1 ≤ r.len
read_some bytes room r are e =
    let begins = reading_spelled bytes r are (within_room (read_instruction bytes) room r e).0 in
    long begins.own begins.spelled begins.len
  where
    long : (own : List ℕ) → Spells r.instruction own → length own ≡ r.len → 1 ≤ r.len
    long [] s l = absurd (spelling_long r.instruction [] s)
    long (b ∷ bs) s l = omega arith

pub drop_bytes : (pos : ℕ) (bytes : List ℕ) → AreBytes bytes → AreBytes (drop pos bytes)
drop_bytes pos bytes are k = rw get_or-drop (are (pos + k))

-- a list up to behind what follows its first elements
take_further : (bytes own behind : List ℕ) (pos n : ℕ) → pos ≤ length bytes → drop pos bytes ≡ own ++ behind → length own ≡ n → take (pos + n) bytes ≡ take pos bytes ++ own
take_further bytes own behind pos n h e l =
    let whole : bytes ≡ (take pos bytes ++ own) ++ behind = sym (take-append-drop pos bytes) ∙ ap (λ (bs : List ℕ). take pos bytes ++ bs) e ∙ sym (append_assoc (take pos bytes) own behind) in
    let front = length-take-le pos bytes h in
    let long : length (take pos bytes ++ own) ≡ pos + n = length-append (take pos bytes) own ∙ omega arith in
    ap (take (pos + n)) whole ∙ take_at (take pos bytes ++ own) behind (pos + n) long

further_within : (bytes own behind : List ℕ) (pos n : ℕ) → pos ≤ length bytes → drop pos bytes ≡ own ++ behind → length own ≡ n → pos + n ≤ length bytes
further_within bytes own behind pos n h e l =
    let long : length bytes - pos ≡ length own + length behind = sym (length-drop pos bytes) ∙ ap length e ∙ length-append own behind in
    omega arith

module _ (sec size : ℕ) (spelled : List ℕ) (pos : ℕ) (f : Followed) (old new : List PlacedRule) where
  pub one_more : (r : Read) → AreBytes spelled → Progress sec size spelled pos f old new → read_within (drop pos spelled) (size - f.location) ≡ Some r → Progress sec size spelled (pos + r.len) (moved_on (moves r.instruction) (after r.instruction f.state) f) old (new ++ moved_rules sec (moves r.instruction) f)
  unfolding lists
  one_more r are p e =
      let kept = within_room (read_instruction (drop pos spelled)) (size - f.location) r e in
      let begins = reading_spelled (drop pos spelled) r (drop_bytes pos spelled are) kept.0 in
      let fits = kept.1 in
      let inside = p.inside in
      let location = p.location in
      let further = take_further spelled begins.own begins.behind pos r.len p.within begins.whole begins.len in
      let all = moves_more p.before r.instruction in
      record {
        before = p.before ++ r.instruction ∷ [];
        read = subst (λ (bs : List ℕ). SpellsAll (p.before ++ r.instruction ∷ []) bs) (sym further) (spells_more r.instruction begins.own p.read begins.spelled);
        location = omega arith;
        within = further_within spelled begins.own begins.behind pos r.len p.within begins.whole begins.len;
        inside = omega arith;
        told = λ todo.
            append_assoc new (moved_rules sec (moves r.instruction) f) (lists sec size todo (moved_on (moves r.instruction) (after r.instruction f.state) f))
            ∙ p.told (r.instruction ∷ todo)
            ∙ ap (λ is. old ++ lists sec size is first_followed) (sym (append_assoc p.before (r.instruction ∷ []) todo));
      }

  -- at the end
  pub all_listed : Progress sec size spelled pos f old new → length spelled ≤ pos → ListsRules sec size spelled old (new ++ moved_rules sec (size - f.location) f)
  unfolding lists
  all_listed p end =
      let location = p.location in
      let inside = p.inside in
      record {
        instructions = p.before;
        read = subst (λ (bs : List ℕ). SpellsAll p.before bs) (take_all pos spelled end) p.read;
        inside = omega arith;
        told =
            p.told []
            ∙ ap (λ is. old ++ lists sec size is first_followed) (append-nil p.before)
            ∙ ap (λ rs. old ++ rs) (lists_listed sec size p.before (omega arith));
      }

  -- at an instruction that isn't one of the profile, or goes too far
  pub stops : Progress sec size spelled pos f old new → pos < length spelled → read_within (drop pos spelled) (size - f.location) ≡ None → StopsAt size spelled pos
  stops p h e = record {
    before = p.before;
    front = take pos spelled;
    left = drop pos spelled;
    whole = sym (take-append-drop pos spelled);
    len = sym (length-take-le pos spelled p.within);
    read = p.read;
    inside = let location = p.location in let inside = p.inside in omega arith;
    more = λ is. let long : length (drop pos spelled) ≡ 0 = ap length is in let d = length-drop pos spelled in absurd (omega arith);
    none = λ i own behind s whole fits.
        let location = p.location in
        let room : moves i ≤ size - f.location = omega arith in
        let read : read_instruction (drop pos spelled) ≡ Some (record { instruction = i; len = length own }) = ap read_instruction whole ∙ spelling_read s behind in
        let small : leb (moves i) (size - f.location) ≡ true = le-leb _ _ room in
        none-some _ (sym e ∙ ap (λ o. kept_within o (size - f.location)) read ∙ kept small (record { instruction = i; len = length own }) refl);
  }
    where
      kept : {b : Bool} → b ≡ true → (r : Read) {o : Option Read} → o ≡ cond b (Some r) None → o ≡ Some r
      kept t r e = e ∙ ap (λ (b : Bool). cond b (Some r) None) t
