-- The lists of function names.
use Rattle.std.specs.Prelude.{ℕ, List, [], ◌∷◌, ◌++◌, codes, refl, if◌then◌else◌}
use Rattle.std.specs.Coded.{Coded, code_by, coded×, coded_list, coded_ℕ}
use Rattle.std.specs.Ordering.{nat_cmp}
use Rattle.std.specs.Cmp.Lexicographic.{slice_cmp}
use Rattle.std.specs.Str.{bytes_eq}
use Rattle.std.specs.FinSet as set
use Rattle.ot_base.specs.NamesFile.{first_word, rest_of, lines, names_added}

-- a set of names
abbrev pub NameSet : Type 0
NameSet = set.FinSet (slice_cmp nat_cmp)

-- the functions that never return, those that may be called with user access on, those that are checked as far as
-- they can be followed, and those that switch tasks
pub record NameLists : Type 0 where
  pub never_returning : NameSet
  pub access_safe : NameSet
  pub loose : NameSet
  pub switching : NameSet

abbrev pub name_set_code : Coded NameSet
name_set_code = set.code (coded_list coded_ℕ)

abbrev pub name_lists_code : Coded NameLists
name_lists_code =
    code_by (NameSet × (NameSet × (NameSet × NameSet)))
    (coded× name_set_code (coded× name_set_code (coded× name_set_code name_set_code)))
    (λ l. (l.never_returning, (l.access_safe, (l.loose, l.switching))))
    (λ p. record { never_returning = p.0; access_safe = p.1.0; loose = p.1.1.0; switching = p.1.1.1 })
    (λ _. refl)

-- the functions of the kernel that never return
abbrev pub kernel_never_returning : List (List ℕ)
kernel_never_returning =
    codes "panic"
    ∷ codes "do_exit"
    ∷ codes "make_task_dead"
    ∷ codes "kthread_exit"
    ∷ codes "__stack_chk_fail"
    ∷ codes "fortify_panic"
    ∷ codes "usercopy_abort"
    ∷ codes "__ubsan_handle_builtin_unreachable"
    ∷ codes "stop_this_cpu"
    ∷ codes "cpu_startup_entry"
    ∷ codes "rewind_stack_and_make_dead"
    ∷ codes "__fortify_panic"
    ∷ codes "__ia32_sys_exit"
    ∷ codes "__ia32_sys_exit_group"
    ∷ codes "__kunit_abort"
    ∷ codes "__module_put_and_kthread_exit"
    ∷ codes "__reiserfs_panic"
    ∷ codes "__tdx_hypercall_failed"
    ∷ codes "__x64_sys_exit"
    ∷ codes "__x64_sys_exit_group"
    ∷ codes "arch_cpu_idle_dead"
    ∷ codes "bch2_trans_in_restart_error"
    ∷ codes "bch2_trans_restart_error"
    ∷ codes "bch2_trans_unlocked_error"
    ∷ codes "cpu_bringup_and_idle"
    ∷ codes "do_group_exit"
    ∷ codes "do_task_dead"
    ∷ codes "ex_handler_msr_mce"
    ∷ codes "hlt_play_dead"
    ∷ codes "hv_ghcb_terminate"
    ∷ codes "kthread_complete_and_exit"
    ∷ codes "kunit_try_catch_throw"
    ∷ codes "machine_real_restart"
    ∷ codes "mpt_halt_firmware"
    ∷ codes "nmi_panic_self_stop"
    ∷ codes "panic_smp_self_stop"
    ∷ codes "rest_init"
    ∷ codes "rust_begin_unwind"
    ∷ codes "rust_helper_BUG"
    ∷ codes "sev_es_terminate"
    ∷ codes "snp_abort"
    ∷ codes "start_kernel"
    ∷ codes "x86_64_start_kernel"
    ∷ codes "x86_64_start_reservations"
    ∷ codes "xen_cpu_bringup_again"
    ∷ codes "xen_start_kernel"
    ∷ []

-- the functions of the kernel that may be called with user access on
abbrev pub kernel_access_safe : List (List ℕ)
kernel_access_safe =
    codes "__fentry__"
    ∷ codes "rep_movs_alternative"
    ∷ codes "rep_stos_alternative"
    ∷ codes "__copy_user_nocache"
    ∷ codes "copy_mc_fragile"
    ∷ codes "copy_mc_enhanced_fast_string"
    ∷ codes "ftrace_likely_update"
    ∷ []

-- the functions of the kernel that are checked as far as they can be followed
abbrev pub kernel_loose : List (List ℕ)
kernel_loose =
    codes "asm_exc_nmi"
    ∷ codes "entry_SYSCALL_compat"
    ∷ codes "return_to_handler"
    ∷ codes "rewind_stack_and_make_dead"
    ∷ codes "wakeup_long64"
    ∷ codes "sev_verify_cbit"
    ∷ codes "sme_encrypt_execute"
    ∷ codes "restore_registers"
    ∷ codes "srso_alias_safe_ret"
    ∷ []

-- the functions of the kernel that switch tasks
abbrev pub kernel_switching : List (List ℕ)
kernel_switching = codes "__switch_to_asm" ∷ []

-- the lists that are built in
unfoldable pub built_in : NameLists
built_in = record {
  never_returning = set.from_list kernel_never_returning;
  access_safe = set.from_list kernel_access_safe;
  loose = set.from_list kernel_loose;
  switching = set.from_list kernel_switching;
}

-- a list with this word, with the name that a line adds to it
abbrev pub with_name : List ℕ → List ℕ → NameSet → NameSet
with_name word line names = if bytes_eq (first_word line) word then set.insert names (rest_of line) else names

-- the lists with the name that a line adds
unfoldable pub with_line : NameLists → List ℕ → NameLists
with_line lists line = record {
  never_returning = with_name (codes "noreturn") line lists.never_returning;
  access_safe = with_name (codes "uaccess") line lists.access_safe;
  loose = with_name (codes "loose") line lists.loose;
  switching = with_name (codes "switch") line lists.switching;
}

-- the built-in lists with the names that these lines add
unfoldable pub with_lines : List (List ℕ) → NameLists
with_lines ls = record {
  never_returning = set.from_list (kernel_never_returning ++ names_added (codes "noreturn") ls);
  access_safe = set.from_list (kernel_access_safe ++ names_added (codes "uaccess") ls);
  loose = set.from_list (kernel_loose ++ names_added (codes "loose") ls);
  switching = set.from_list (kernel_switching ++ names_added (codes "switch") ls);
}

-- the built-in lists with the names that a names file adds
abbrev pub lists_with : List ℕ → NameLists
lists_with text = with_lines (lines text)
