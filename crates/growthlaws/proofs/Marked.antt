-- Document 01's starred examples hold of the rules. Assumes nothing.
use Rattle.hashers.proofs.Vectors.{murmur_of_empty, simple_of_empty, fnv_of_empty}
use Rattle.laws.proofs.Examples.{examples_hold}
use Rattle.sizing.proofs.Examples.{example_8}
use Rattle.growthlaws.specs.Marked.{Marked}
use Rattle.growthlaws.proofs.Worked.{example_8_holds}

pub marked_examples_hold : Marked
marked_examples_hold =
    record {
      one_to_seven = examples_hold;
      eight_sizes = (
        λ n h cs v c. (example_8 n h cs v c).0,
        λ n h cs v c. (example_8 n h cs v c).1,
        λ n h cs v c. (example_8 n h cs v c).2,
        λ n h cs v c. (example_8 n h cs v c).3,
      );
      eight_moves = example_8_holds;
      twelve = (murmur_of_empty, simple_of_empty, fnv_of_empty);
    }
