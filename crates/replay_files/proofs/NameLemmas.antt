-- What is found in a map by a file's name, and what becomes of its entries.
use Rattle.std.proofs.Common.{◌≡◌, ℕ, Bool, true, false, not, cond, nat_eq, List, [], ◌∷◌, ◌++◌, map, Option, Some, None, refl, sym, ap, ◌∙◌}
use Rattle.std.specs.List.{filter, find}
use Rattle.std.specs.Option.{option_map}
use Rattle.std.specs.Map.{lookup}
use Rattle.std.specs.Str.{bytes_eq}
use Rattle.std.specs.Cmp.Lexicographic.{pointwise, same_text}
use Rattle.std.proofs.lemmas.Cmp.{nat_list_eq_equiv}
use Rattle.journal_model.specs.Catalogue.{CatalogFile, is_named}
use Rattle.replay_files.specs.Files.{FileBody, catalog_file}

pub files-named : (name : List ℕ) (es : List (List ℕ × FileBody)) → find (is_named name) (map catalog_file es) ≡ option_map (λ (b : FileBody). catalog_file (name, b)) (lookup (pointwise nat_eq name) es)
files-named name [] = refl
files-named name (e ∷ es) = ap (λ (b : Bool). cond b (Some (catalog_file e)) (find (is_named name) (map catalog_file es))) (nat_list_eq_equiv.symm e.0 name) ∙ at (pointwise nat_eq name e.0) refl (files-named name es) where
  at : (b : Bool) → pointwise nat_eq name e.0 ≡ b → find (is_named name) (map catalog_file es) ≡ option_map (λ (b : FileBody). catalog_file (name, b)) (lookup (pointwise nat_eq name) es)
      → cond b (Some (catalog_file e)) (find (is_named name) (map catalog_file es)) ≡ option_map (λ (b : FileBody). catalog_file (name, b)) (cond b (Some e.1) (lookup (pointwise nat_eq name) es))
  at true same more = ap (λ (n : List ℕ). Some (catalog_file (n, e.1))) (sym (same_text name e.0 (sym same)))
  at false same more = more

pub files-push : (name : List ℕ) (body : FileBody) (es : List (List ℕ × FileBody)) → map catalog_file (es ++ (name, body) ∷ []) ≡ map catalog_file es ++ catalog_file (name, body) ∷ []
files-push name body [] = refl
files-push name body (e ∷ es) = ap (λ (rest : List CatalogFile). catalog_file e ∷ rest) (files-push name body es)

pub files-filter : (name : List ℕ) (es : List (List ℕ × FileBody)) → map catalog_file (filter (λ (e : List ℕ × FileBody). not (bytes_eq e.0 name)) es) ≡ filter (λ (f : CatalogFile). not (is_named name f)) (map catalog_file es)
files-filter name [] = refl
files-filter name (e ∷ es) = at (not (bytes_eq e.0 name)) (files-filter name es) where
  at : (b : Bool) → map catalog_file (filter (λ (e : List ℕ × FileBody). not (bytes_eq e.0 name)) es) ≡ filter (λ (f : CatalogFile). not (is_named name f)) (map catalog_file es)
      → map catalog_file (cond b (e ∷ filter (λ (e : List ℕ × FileBody). not (bytes_eq e.0 name)) es) (filter (λ (e : List ℕ × FileBody). not (bytes_eq e.0 name)) es))
      ≡ cond b (catalog_file e ∷ filter (λ (f : CatalogFile). not (is_named name f)) (map catalog_file es)) (filter (λ (f : CatalogFile). not (is_named name f)) (map catalog_file es))
  at true more = ap (λ (rest : List CatalogFile). catalog_file e ∷ rest) more
  at false more = more

none_mapped : {A B : Type 0} (f : A → B) (o : Option A) → option_map f o ≡ None → o ≡ None
none_mapped f None h = refl
none_mapped f (Some x) h = absurd cc

pub files-absent : (name : List ℕ) (es : List (List ℕ × FileBody)) → find (is_named name) (map catalog_file es) ≡ None → lookup (pointwise nat_eq name) es ≡ None
files-absent name es h = none_mapped (λ (b : FileBody). catalog_file (name, b)) (lookup (pointwise nat_eq name) es) (sym (files-named name es) ∙ h)

pub mapped_twice : {A B C : Type 0} (f : B → C) (g : A → B) (o : Option A) → option_map f (option_map g o) ≡ option_map (λ (x : A). f (g x)) o
mapped_twice f g None = refl
mapped_twice f g (Some x) = refl
