-- What an output holds.
use Rattle.std.proofs.Common.{◌≡◌, ℕ, List, [], ◌∷◌, ◌++◌, map, refl, sym, ap, ◌∙◌, append_assoc, Option, None, Some}
use Rattle.std.specs.List.{concat}
use Rattle.std.specs.Option.{option_map}
use Rattle.std.proofs.lemmas.List.{append-nil, map-append}
use Rattle.std.proofs.lemmas.List.Folds.{concat-append}
use Rattle.outside.specs.Shelf.{Written, with_object, write_of, one_more}
use Rattle.outside.specs.Views.{ShelfView}
use Rattle.outside.proofs.ObjectLaws.{with_added-with_object}
use Rattle.depot.specs.Calls.{after_append}
use Rattle.restore.specs.Output.{after_making, after_adding, with_output}

-- one more chunk
wrote-push : (told : Option (List Written)) (output : List ℕ) (chunks : List (List ℕ)) (bytes : List ℕ)
    → one_more (option_map (λ (ws : List Written). ws ++ write_of output [] ∷ map (write_of output) chunks) told) (write_of output bytes)
    ≡ option_map (λ (ws : List Written). ws ++ write_of output [] ∷ map (write_of output) (chunks ++ bytes ∷ [])) told
wrote-push None output chunks bytes = refl
wrote-push (Some ws) output chunks bytes = ap Some (
    append_assoc ws (write_of output [] ∷ map (write_of output) chunks) (write_of output bytes ∷ [])
    ∙ ap (λ (more : List Written). ws ++ write_of output [] ∷ more) (sym (map-append (write_of output) chunks (bytes ∷ []))))

with_output-push : (files : ShelfView) (output : List ℕ) (chunks : List (List ℕ)) (bytes : List ℕ) → after_append (with_output files output chunks) output bytes ≡ with_output files output (chunks ++ bytes ∷ [])
with_output-push files output chunks bytes =
    let held = with_added-with_object files.held output (concat chunks) bytes ∙ ap (with_object files.held output) (sym (concat-append chunks (bytes ∷ []) ∙ ap (λ (l : List ℕ). concat chunks ++ l) (append-nil bytes))) in
    let wrote = wrote-push files.wrote output chunks bytes in
    λ i. record files { held = held i; wrote = wrote i }

pub more_output : (files : ShelfView) (output : List ℕ) (done chunks : List (List ℕ)) → after_adding (with_output files output done) output chunks ≡ with_output files output (done ++ chunks)
more_output files output done [] = ap (with_output files output) (sym (append-nil done))
more_output files output done (bytes ∷ chunks) =
    ap (λ (s : ShelfView). after_adding s output chunks) (with_output-push files output done bytes)
    ∙ more_output files output (done ++ bytes ∷ []) chunks
    ∙ ap (with_output files output) (append_assoc done (bytes ∷ []) chunks)

pub output-joined : (files : ShelfView) (output : List ℕ) (chunks : List (List ℕ)) → after_adding (after_making files output) output chunks ≡ with_output files output chunks
output-joined files output chunks = more_output files output [] chunks
