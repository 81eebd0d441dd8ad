-- What holds of each item of a reading holds of what is found among them.
use Rattle.std.proofs.Common.{◌==◌, Bool, Option, Some, None, List, [], ◌∷◌, reverse, sym, subst}
use Rattle.std.specs.Prelude.{find, IfSome}
use Rattle.std.specs.List.{AllByRecursion}
use Rattle.std.specs.Ordering.{is_lt, is_gt}
use Rattle.std.proofs.lemmas.Bool.{cond_both}
use Rattle.key_spec.specs.declared.KeyPart.{KeyPart}
use Rattle.key_spec.specs.declared.Ties.{Ties}
use Rattle.file_model.specs.KeyOrder.{KeyValue, begins_with}
use Rattle.file_model.specs.Paths.{PathEntry}
use Rattle.file_model.specs.Positions.{Position, path_reading, side_of, where_equal, next_from, prior_from}
use Rattle.file_model.proofs.PathLemmas.{all-append}
use Rattle.file_cursor.proofs.ListLemmas.{reverse-cons}
use Rattle.key_values.specs.KeyValues.{values_in}
use Rattle.open_position.specs.declared.reads.ReadBy.{ReadBy}
use Rattle.open_position.specs.declared.reads.ReadBy.TheVariants as asked
use Rattle.open_position.specs.Reads.{asked_of}

module _ {A : Type 0} (P : A → Type 0) where
  all-reverse : (xs : List A) → AllByRecursion P xs → AllByRecursion P (reverse xs)
  all-reverse [] all = tt
  all-reverse (x ∷ xs) all = subst (AllByRecursion P) (sym (reverse-cons x xs)) (all-append P (reverse xs) (x ∷ []) (all-reverse xs all.1) (all.0, tt))

  find-holds : (q : A → Bool) (xs : List A) → AllByRecursion P xs → IfSome (find q xs) P
  find-holds q [] all = tt
  find-holds q (x ∷ xs) all =
      let rest = find-holds q xs all.1 in
      cond_both (q x) (Some x) (find q xs) (λ (o : Option A). IfSome o P) (λ _. all.0) (λ _. rest)

module _ (P : PathEntry → Type 0) (parts : List KeyPart) (ties : Ties) (items : List PathEntry) (all : AllByRecursion P items) where
  where-holds : (values : List KeyValue) (found : Option PathEntry) → IfSome found P → IfSome (where_equal (path_reading ties items) values found) P
  where-holds values None holds = tt
  where-holds values (Some e) holds =
      cond_both (begins_with values e.key) (Some e) None (λ (o : Option PathEntry). IfSome o P) (λ _. holds) (λ _. tt)

  next-holds : (position : Position PathEntry) → IfSome (next_from (path_reading ties items) position) P
  next-holds position = find-holds P (λ e. is_gt (side_of (path_reading ties items) position e)) items all

  prior-holds : (position : Position PathEntry) → IfSome (prior_from (path_reading ties items) position) P
  prior-holds position = find-holds P (λ e. is_lt (side_of (path_reading ties items) position e)) (reverse items) (all-reverse P items all)

  pub asked-holds : (by : ReadBy) (position : Position PathEntry) → IfSome (asked_of by parts (path_reading ties items) position) P
  asked-holds asked.Next position = next-holds position
  asked-holds asked.Prior position = prior-holds position
  asked-holds (asked.NextEqual key) position = where-holds (values_in parts key.now) (next_from (path_reading ties items) position) (next-holds position)
  asked-holds (asked.PriorEqual key) position = where-holds (values_in parts key.now) (prior_from (path_reading ties items) position) (prior-holds position)
  asked-holds (asked.FirstEqual key) position = find-holds P (λ e. begins_with (values_in parts key.now) e.key) items all
  asked-holds (asked.Number rrn) position = find-holds P (λ e. e.rrn == rrn) items all
