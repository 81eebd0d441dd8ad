-- A list that is made item by item from another.
use Rattle.std.proofs.Common.{◌≡◌, ◌∙◌, ℕ, ◌+◌, List, [], ◌∷◌, ◌++◌, drop, map, append-nil, append_assoc, refl, ap, sym, subst}
use Rattle.std.specs.List.{AllZip}
use Rattle.library_steps.below.dds_logical.specs.declared.join_views.JoinedFile.{JoinedFile}
use Rattle.file_model.specs.declared.joins.Secondary.{Secondary}
use Rattle.key_spec.specs.declared.KeyPart.{KeyPart}

-- of each of those before the place an item is made that stands for it
pub record AreMade {A B : Type 0} (R : A → B → Type 0) (all : List A) (place : ℕ) (made : List B) : Type 0 where
  pub more : (rest : List B) → AllZip R (drop place all) rest → AllZip R all (made ++ rest)

pub made-first : {A B : Type 0} (R : A → B → Type 0) (all : List A) (made : List B) → made ≡ [] → AreMade R all 0 made
made-first {B = B} R all made none = record { more = λ rest zip. subst (λ (m : List B). AllZip R all (m ++ rest)) (sym none) zip }

pub made-next : {A B : Type 0} (R : A → B → Type 0) (all : List A) (place : ℕ) (made new : List B) (a : A) (b : B) → drop place all ≡ a ∷ drop (place + 1) all → new ≡ made ++ b ∷ [] → R a b
    → AreMade R all place made → AreMade R all (place + 1) new
made-next {A = A} {B = B} R all place made new a b next is holds so = record {
  more = λ rest zip.
      subst (AllZip R all) (sym (ap (λ (m : List B). m ++ rest) is ∙ append_assoc made (b ∷ []) rest))
      (so.more (b ∷ rest) (subst (λ (left : List A). AllZip R left (b ∷ rest)) (sym next) (holds, zip)));
}

pub made-end : {A B : Type 0} (R : A → B → Type 0) (all : List A) (place : ℕ) (made : List B) → drop place all ≡ [] → AreMade R all place made → AllZip R all made
made-end {A = A} R all place made none so = subst (AllZip R all) (append-nil made) (so.more [] (subst (λ (left : List A). AllZip R left []) (sym none) tt))

-- ---- secondary files of which nothing counts but the position of JDUPSEQ

map-made : (made : List Secondary) (one : Secondary) → map (λ (file : Secondary). file.sequence) (made ++ one ∷ []) ≡ map (λ (file : Secondary). file.sequence) made ++ one.sequence ∷ []
map-made [] one = refl
map-made (first ∷ made) one = ap (λ (rest : List KeyPart). first.sequence ∷ rest) (map-made made one)

pub sequences-next : (files : List JoinedFile) (place : ℕ) (made new : List Secondary) (joined : JoinedFile) (one : Secondary) → drop place files ≡ joined ∷ drop (place + 1) files
    → new ≡ made ++ one ∷ [] → one.sequence ≡ joined.sequence
    → map (λ (file : Secondary). file.sequence) made ++ map (λ (j : JoinedFile). j.sequence) (drop place files) ≡ map (λ (j : JoinedFile). j.sequence) files
    → map (λ (file : Secondary). file.sequence) new ++ map (λ (j : JoinedFile). j.sequence) (drop (place + 1) files) ≡ map (λ (j : JoinedFile). j.sequence) files
sequences-next files place made new joined one next is same so =
    let rest : List KeyPart = map (λ (j : JoinedFile). j.sequence) (drop (place + 1) files) in
    let before : List KeyPart = map (λ (file : Secondary). file.sequence) made in
    ap (λ (m : List Secondary). map (λ (file : Secondary). file.sequence) m ++ rest) is
    ∙ ap (λ (ps : List KeyPart). ps ++ rest) (map-made made one)
    ∙ append_assoc before (one.sequence ∷ []) rest
    ∙ ap (λ (p : KeyPart). before ++ p ∷ rest) same
    ∙ sym (ap (λ (l : List JoinedFile). before ++ map (λ (j : JoinedFile). j.sequence) l) next)
    ∙ so

-- ---- lists one behind another

pub joined : {X : Type 0} (xs ys zs : List X) → xs ++ ys ++ zs ≡ xs ++ (ys ++ zs)
joined xs ys zs = append_assoc xs ys zs
