use Rattle.std.proofs.Common.{◌++◌, ap, ◌∙◌, map}
use Rattle.std.proofs.lemmas.List.Elements.{All-append}
use Rattle.container_file.specs.Chunk.{IsChunk}
use Rattle.container_file.specs.Layout.{Laid, put_to}
use Rattle.container_file.specs.Containers.{chunks_in}
use Rattle.container_file.proofs.ContainerLaws.{are-chunks, text-new, text-last, places-new, places-behind, none_in}
use Rattle.container_file.proofs.laws.scan_of_a_layout.Goals as goal

pub returns-clause-started : goal.returns-clause-started
returns-clause-started c = λ end room cs o all new. record { chunks = are-chunks end room cs o all; text = text-new end room cs o new }

pub returns-clause-started_places : goal.returns-clause-started_places
returns-clause-started_places c = λ end room cs o new. places-new end room cs o new

pub returns-clause-last : goal.returns-clause-last
returns-clause-last c = λ end room cs old o all last text is.
    record {
      chunks = All-append IsChunk old (chunks_in end room cs o) is.chunks (are-chunks end room cs o all);
      text = text-last end room cs old o last ∙ ap (λ t. t ++ (put_to end room cs o).bytes) is.text;
    }

pub returns-clause-last_places : goal.returns-clause-last_places
returns-clause-last_places c = λ end room cs old o last are used. places-behind end room cs old o last are used

pub returns-clause-others : goal.returns-clause-others
returns-clause-others c = λ end room cs o low. ap (map (λ (l : Laid). l.chunk)) (none_in end room cs o low)
