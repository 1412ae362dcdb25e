use Rattle.std.proofs.Common.{◌≡◌, ℕ, List, sym, subst, arith}
use Rattle.romfs_rules.specs.Sets.{AreSets}
use Rattle.romfs_rules.specs.Headers.{IsHeader}
use Rattle.romfs_rules.specs.declared.header.Header.TheInside.{Inside}
use Rattle.romfs_rules.proofs.Judging.{listed_says, rises}
use Rattle.romfs_rules.proofs.judge.Sets.header.Goals as goal

in_image : (header : Inside) (a b : List ℕ) → a ≡ b → IsHeader a header → IsHeader b header
in_image header a b e h = subst (λ x. IsHeader x header) e h

pub invariant_of-result : goal.invariant_of-result
invariant_of-result g c =
    let sets = subst (λ a. AreSets a c.self.inside) c.self.view_is c.self.invariant in
    in_image _ _ _ (sym c.self.view_is) (record {
      asked = c.requires;
      is_name = rw c.self.view_is at c.text_at-name.ensures.value;
      name_within = rw c.self.view_is at c.text_at-name.ensures.within;
      is_member = rw c.self.view_is at c.is_member_by-member.ensures;
      is_used = c.is_used.ensures;
      is_twice = c.is_twice.ensures;
      has_same_name = listed_says _ _ _ _ sets.same_names c.requires.alone c.is_listed.ensures;
      ends = c.end_of.ensures;
    })

pub is_used-requires-clause-member : goal.is_used-requires-clause-member
is_used-requires-clause-member g c = rw c.self.view_is at c.is_member_by-member.ensures

pub end_of-requires-clause-member : goal.end_of-requires-clause-member
end_of-requires-clause-member g c = rw c.self.view_is at c.is_member_by-member.ensures

pub is_used-requires-clause-slot : goal.is_used-requires-clause-slot
is_used-requires-clause-slot g c = c.requires.slot

pub is_twice-requires : goal.is_twice-requires
is_twice-requires g c = c.requires.slot

pub end_of-requires-clause-slot : goal.end_of-requires-clause-slot
end_of-requires-clause-slot g c = c.requires.slot

pub is_listed-requires-clause-rising : goal.is_listed-requires-clause-rising
is_listed-requires-clause-rising g c = rises _ c.self.invariant.same_names.rising

pub is_listed-requires-clause-at : goal.is_listed-requires-clause-at
is_listed-requires-clause-at g c =
    let small = rw c.self.view_is at c.self.inside.volume.now.keeps.small in
    let inside = c.requires.slot.inside.1 in
    omega arith
