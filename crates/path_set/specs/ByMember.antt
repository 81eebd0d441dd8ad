-- Which kept paths are over a member? They stand by member and number, each once. (Our own.)
use Rattle.std.specs.Prelude.{◌≡◌, ℕ, ◌≤◌, ◌==◌, nat_lt, not, List, [], ◌∷◌, length, map, filter, if◌then◌else◌}
use Rattle.std.specs.declared.cmp.Ordering.{Ordering}
use Rattle.std.specs.declared.cmp.Ordering.TheVariants.{Less, Greater}
use Rattle.std.specs.Ordering.{nat_cmp, ordering_then}
use Rattle.std.specs.List.Sorted.{IsStrictlySortedBy, IsPartitionPoint}
use Rattle.path_set.specs.declared.by_member.PathOver.{PathOver}
use Rattle.path_set.specs.declared.kept.Kept.{Kept}
use Rattle.path_set.specs.KeptPaths.{NumberedPaths}
use Rattle.path_set.specs.MemberSteps.{is_over, paths_over}

-- by member, and then by number
abbrev pub path_cmp : PathOver → PathOver → Ordering
path_cmp path other = ordering_then (nat_cmp path.member other.member) (nat_cmp path.id other.id)

-- each stands before all later ones, so that none is there twice
abbrev pub AreByMember : List PathOver → Type 0
AreByMember paths = IsStrictlySortedBy path_cmp paths

-- none is the path, and it would go to the place
pub record IsGapFor (path : PathOver) (paths : List PathOver) (place : ℕ) : Type 0 where
  pub in_range : place ≤ length paths
  pub parted : IsPartitionPoint (λ other. path_cmp other path ≡ Less) (λ other. path_cmp other path ≡ Greater) paths place

-- the numbers of those over the member, as they stand
abbrev pub numbers_of : (member : ℕ) → List PathOver → List ℕ
numbers_of member paths = map (λ path. path.id) (filter (λ path. path.member == member) paths)

-- the numbers of the kept paths over the member
abbrev pub numbers_over : (member : ℕ) → List Kept → List ℕ
numbers_over member kept = map (λ path. path.id) (filter (λ path. is_over member path.by) kept)

-- a number in its place among ascending ones, where it isn't there yet
abbrev pub with_number : ℕ → List ℕ → List ℕ
with_number n [] = n ∷ []
with_number n (k ∷ ks) = if nat_lt k n then k ∷ with_number n ks else if k == n then k ∷ ks else n ∷ k ∷ ks

abbrev pub without_number : ℕ → List ℕ → List ℕ
without_number n ks = filter (λ k. not (k == n)) ks

-- they are in order, and are the kept paths over each member
pub record AreIndexed (kept : List Kept) (paths : List PathOver) : Type 0 where
  pub ordered : AreByMember paths
  pub same : (member : ℕ) → numbers_of member paths ≡ numbers_over member kept

-- they are the kept paths over this member
abbrev pub AreNumbers : (member : ℕ) → List PathOver → NumberedPaths → Type 0
AreNumbers member over paths = map (λ path. path.id) over ≡ map (λ path. path.number) (paths_over member paths)
