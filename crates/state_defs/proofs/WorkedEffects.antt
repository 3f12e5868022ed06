-- What each operation does, from one core.
use Rattle.std.proofs.Common.{◌≡◌, ℕ, ◌≤◌, [], ◌++◌, true, false, refl, arith, lit≤}
use Rattle.state_defs.specs.Region.{word_at, Stores, WritesOnly}
use Rattle.state_defs.specs.Frame.{protected_addresses}
use Rattle.state_defs.specs.WorkedEffects.{word, stack, four_words, stored, rbp_below, rbp_third, before, HasEffects}
use Rattle.state_defs.proofs.WorkedBytes.{one_address, stays, writes}

-- a store below spares the return address
stores : Stores (protected_addresses before.shadow) four_words stored
stores = record { addresses = record { lo = refl; size = refl }; spared = one_address (λ (address : ℕ). word_at stored address ≡ word_at four_words address) 0x8018 refl }

stores_rbp : Stores (protected_addresses before.shadow) four_words rbp_below
stores_rbp = record { addresses = record { lo = refl; size = refl }; spared = one_address (λ (address : ℕ). word_at rbp_below address ≡ word_at four_words address) 0x8018 refl }

-- the lowest word is written alone, and the third one
lowest : (low high : ℕ) → WritesOnly 0x8000 8 four_words (stack (word low high) (word 9 0))
lowest low high = writes 0x8000 [] (word 5 0) (word low high) (word 7 0 ++ word 9 0 ++ word 0 0) refl refl (lit≤ tt)

third : WritesOnly 0x8010 8 four_words rbp_third
third = writes 0x8000 (word 5 0 ++ word 7 0) (word 9 0) (word 16 128) (word 0 0) refl refl (lit≤ tt)

pub effects : HasEffects
effects = record {
  plain = (stores, refl);
  nop = refl;
  endbr = refl;
  push = (lowest 1 2, refl);
  push_bp = (record { only = lowest 16 128; word = refl }, refl);
  pop = (stores, refl);
  pop_bp = (refl, refl);
  pop_saved_bp = (refl, refl);
  popf = (λ off. refl, refl);
  popf_leaves = (λ off. off, refl);
  popf_off = (λ off. off, refl);
  popf_turns_on = λ h. let e : true ≡ false = h.0 refl in let k : ⊥ = cc in k;
  add_sp = refl;
  and_sp = refl;
  lea_sp_bp = refl;
  lea_bp_sp = refl;
  lea_bp_room = refl;
  sub_sp = (lit≤ tt, refl);
  sp_reg = (lit≤ tt, refl);
  sub_sp_rises = λ h. let e : 0x8010 ≤ 0x8008 = h.0 in absurd (omega arith);
  store_bp = (record { only = third; word = refl }, refl);
  store_bp_below = (record { only = lowest 16 128; word = refl }, (stores_rbp, refl));
  load_bp = (refl, refl);
  load_saved_bp = (refl, refl);
  leave = (refl, refl);
  sp_other = (stores, refl);
  bp_other = (stores, refl);
  hop = (stays four_words 0x8000 8, refl);
  jmp = refl;
  jcc = refl;
  jmp_ind = refl;
  iret_next = refl;
  ud2 = refl;
  int3 = refl;
  stac = refl;
  clac = refl;
  call = λ h. h;
  call_ind = λ h. h;
  ret = λ h. h;
  ret_imm = λ h. h;
  iret = λ h. h;
  switch = λ h. h;
}
