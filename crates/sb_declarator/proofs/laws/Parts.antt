-- The readers of members and parameters of each depth keep the laws, and so do those of declarators.
use Rattle.std.proofs.Common.{◌≡◌, ◌≤◌, ◌-◌, ◌&&◌, ℕ, zero, suc, Bool, false, List, sym, subst, arith}
use Rattle.sb_base.specs.declared.interning.Name.{Name}
use Rattle.sb_parse.specs.Lawful.{Lawful}
use Rattle.sb_parse.proofs.Descending.{descent_from, descent_step}
use Rattle.sb_specifier.specs.Specified.{reading}
use Rattle.sb_specifier.specs.Readers.{Parts}
use Rattle.sb_declarator.specs.Readers.{no_parts, parts_at, parts, declarators}
use Rattle.sb_specifier.proofs.laws.More.{more_declarator, FitsDeclarator, more_parameters, FitsParameters, more_members, FitsMembers, MembersLaws, ParametersLaws}
use Rattle.sb_declarator.proofs.laws.Parameters.{parameters_law}
use Rattle.sb_declarator.proofs.laws.Declarators.{declarators_law}
use Rattle.sb_declarator.proofs.laws.Members.{members_law}

-- both readers keep the laws at this depth
abbrev PartsLaw : List (List ℕ) → ℕ → Parts → Type 0
PartsLaw texts left p = (types : List Name) → Lawful (FitsMembers texts left types) (more_members texts) (p.members types) × Lawful (FitsParameters texts left types) (more_parameters texts) (p.parameters types)

module _ (texts : List (List ℕ)) where
  up_to : (most left : ℕ) → left ≤ most → 2 ≤ left → PartsLaw texts left (parts texts left 0)
  up_to most zero le some = absurd (omega arith)
  up_to most (suc zero) le some = absurd (omega arith)
  up_to zero (suc (suc m)) le some = absurd (omega arith)
  up_to (suc most) (suc (suc m)) le some =
      let one : 1 ≤ suc m = omega arith in
      let deeper : (k : ℕ) → 2 ≤ suc m - k → PartsLaw texts (suc m - k) (parts texts (suc m) k) =
      λ k enough. subst (PartsLaw texts (suc m - k)) (sym (descent_from (no_parts texts) (parts_at texts) (suc m) k)) (up_to most (suc m - k) (omega arith) enough) in
      let M : MembersLaws texts (suc m) (parts texts (suc m)) = λ k enough types. (deeper k enough types).0 in
      subst (PartsLaw texts (suc (suc m))) (sym (descent_step (no_parts texts) (parts_at texts) (suc m)))
      (λ types. (members_law texts (suc m) (parts texts (suc m)) M one types, parameters_law texts (suc m) (parts texts (suc m)) M one types))

  pub lawful_members : (left : ℕ) → 2 ≤ left → (types : List Name) → Lawful (FitsMembers texts left types) (more_members texts) ((parts texts left 0).members types)
  lawful_members left some types = (up_to left left (omega arith) some types).0

  pub lawful_parameters : (left : ℕ) → 2 ≤ left → (types : List Name) → Lawful (FitsParameters texts left types) (more_parameters texts) ((parts texts left 0).parameters types)
  lawful_parameters left some types = (up_to left left (omega arith) some types).1

  parts_below : (below k : ℕ) → 2 ≤ below - k → PartsLaw texts (below - k) (parts texts below k)
  parts_below below k enough = subst (PartsLaw texts (below - k)) (sym (descent_from (no_parts texts) (parts_at texts) below k)) (up_to (below - k) (below - k) (omega arith) enough)

  -- as the readers above ask for them
  pub members_below : (below : ℕ) → MembersLaws texts below (parts texts below)
  members_below below k enough types = (parts_below below k enough types).0

  pub parameters_below : (below : ℕ) → ParametersLaws texts below (parts texts below)
  parameters_below below k enough types = (parts_below below k enough types).1

  pub lawful_declarators : (types : List Name) (functions may_lack : Bool) → (functions && may_lack) ≡ false → (below room : ℕ) → suc room ≤ below
      → Lawful (FitsDeclarator texts types functions may_lack below room) (more_declarator (reading texts types)) (declarators (reading texts types) functions may_lack below (parts texts below) room 0)
  lawful_declarators types functions may_lack not_both below room small = declarators_law texts types functions may_lack not_both below (parts texts below) (λ h. parameters_below below) room small
