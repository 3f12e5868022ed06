-- The line of a warning.
use Rattle.std.specs.Prelude.{ℕ, zero, suc, ℤ, pos, negsuc, ◌^◌, ◌==◌, nat_lt, List, [], ◌∷◌, ◌++◌, codes, if◌then◌else◌}
use Rattle.std.specs.Fmt.{decimal, signed_decimal}
use Rattle.ot_base.specs.declared.warning.Warning.{Warning}
use Rattle.ot_base.specs.declared.rules.TheConstants.{BAD_BRANCH_TARGET, FALLS_THROUGH, RUNS_OFF_SECTION, STATE_MISMATCH, MODIFIED_RETURN, MODIFIED_SIBLING_CALL, UNSUPPORTED_SP_WRITE, BP_NOT_SAVED, STACK_POINTER_LOST, OFFSET_OUT_OF_RANGE, SAVED_SLOT_DROPPED, ALTERNATIVES_DISAGREE, JUMP_INTO_SITE, UNREACHABLE_INSTRUCTION, EXIT_NOT_ALLOWED, CALL_INTO_FUNCTION, FUNCTION_WITHOUT_SIZE, RESTORE_WITHOUT_SAVE, RELOCATED_STACK_OFFSET, CALL_WITHOUT_FRAME, INDIRECT_BRANCH, NAKED_RETURN, CALL_WITH_ACCESS, RETURN_WITH_ACCESS, RETURN_WITHOUT_ACCESS, ACCESS_ON_TWICE, ACCESS_OFF_TWICE, SAFE_FUNCTION_ACCESS_OFF, POPF_WITH_ACCESS_TRACKED, CALL_LEAVES_NOINSTR, RETURN_WITHOUT_INT3, JUMP_WITHOUT_INT3, TAKEN_WITHOUT_ENDBR}
use Rattle.ot_base.specs.PlaceText.{escaped, place_text, text_at}

-- what the rules say that tell no number
abbrev pub fixed_text : ℕ → List ℕ
fixed_text = text_at (
    (BAD_BRANCH_TARGET, codes "bad branch target")
    ∷ (FALLS_THROUGH, codes "falls into another function")
    ∷ (RUNS_OFF_SECTION, codes "runs off the section")
    ∷ (UNSUPPORTED_SP_WRITE, codes "unsupported write of rsp")
    ∷ (BP_NOT_SAVED, codes "rbp written before it is saved")
    ∷ (STACK_POINTER_LOST, codes "stack pointer lost")
    ∷ (SAVED_SLOT_DROPPED, codes "saved slot dropped")
    ∷ (JUMP_INTO_SITE, codes "jump into an alternative site")
    ∷ (UNREACHABLE_INSTRUCTION, codes "unreachable instruction")
    ∷ (EXIT_NOT_ALLOWED, codes "return or context switch not allowed here")
    ∷ (CALL_INTO_FUNCTION, codes "call into the middle of a function")
    ∷ (FUNCTION_WITHOUT_SIZE, codes "function without size")
    ∷ (RESTORE_WITHOUT_SAVE, codes "restore without save")
    ∷ (RELOCATED_STACK_OFFSET, codes "relocated stack offset")
    ∷ (CALL_WITHOUT_FRAME, codes "call without frame")
    ∷ (INDIRECT_BRANCH, codes "indirect branch")
    ∷ (NAKED_RETURN, codes "naked return")
    ∷ (RETURN_WITH_ACCESS, codes "return with user access on")
    ∷ (RETURN_WITHOUT_ACCESS, codes "return with user access off")
    ∷ (ACCESS_ON_TWICE, codes "user access turned on twice")
    ∷ (ACCESS_OFF_TWICE, codes "user access turned off twice")
    ∷ (SAFE_FUNCTION_ACCESS_OFF, codes "safe function turns user access off")
    ∷ (POPF_WITH_ACCESS_TRACKED, codes "popf where user access is tracked")
    ∷ (RETURN_WITHOUT_INT3, codes "missing int3 after return")
    ∷ (JUMP_WITHOUT_INT3, codes "missing int3 after indirect jump")
    ∷ (TAKEN_WITHOUT_ENDBR, codes "address taken without endbr")
    ∷ [])

-- what is called: a symbol by its name, or -1 for an indirect target; no other number names anything
abbrev pub callee_text : (ℕ → List ℕ) → ℤ → List ℕ
callee_text symbols (pos n) = if nat_lt n (2 ^ 32) then escaped (symbols n) else []
callee_text symbols (negsuc zero) = codes "indirect target"
callee_text symbols (negsuc (suc n)) = []

-- what a rule says of its numbers
unfoldable pub rule_text : (ℕ → List ℕ) → ℕ → ℤ → ℤ → List ℕ
rule_text symbols rule a b =
    if rule == STATE_MISMATCH then codes "stack state mismatch: kept " ++ signed_decimal a ++ codes ", found " ++ signed_decimal b
    else (if rule == MODIFIED_RETURN then codes "return with modified stack: depth " ++ signed_decimal a
    else (if rule == MODIFIED_SIBLING_CALL then codes "sibling call with modified stack: depth " ++ signed_decimal a
    else (if rule == OFFSET_OUT_OF_RANGE then codes "offset out of range: " ++ signed_decimal a
    else (if rule == ALTERNATIVES_DISAGREE then codes "alternatives disagree at offset " ++ signed_decimal a
    else (if rule == CALL_WITH_ACCESS then codes "call to " ++ callee_text symbols a ++ codes " with user access on"
    else (if rule == CALL_LEAVES_NOINSTR then codes "call to " ++ callee_text symbols a ++ codes " leaves noinstr code"
    else fixed_text rule))))))

-- a broken rule and what it says, under the names of symbols
unfoldable pub warning_words : (ℕ → List ℕ) → Warning → List ℕ
warning_words symbols w = codes "rule " ++ decimal w.rule ++ codes ": " ++ rule_text symbols w.rule w.a w.b

-- the line of a warning, under the names of sections and symbols
unfoldable pub warning_line : (ℕ → List ℕ) → (ℕ → List ℕ) → Warning → List ℕ
warning_line sections symbols w = place_text (sections w.place.sec) w.place.off ++ codes ": " ++ warning_words symbols w ++ codes "\n"
