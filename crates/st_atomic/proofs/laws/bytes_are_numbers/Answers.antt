use Rattle.st_atomic.proofs.Bytes.{length-bytes_of, number_of-bytes_of, bytes_of-number_of}
use Rattle.st_atomic.proofs.laws.bytes_are_numbers.Goals as goal

pub returns-clause-length : goal.returns-clause-length
returns-clause-length c = length-bytes_of

pub returns-clause-number : goal.returns-clause-number
returns-clause-number c = number_of-bytes_of

pub returns-clause-bytes : goal.returns-clause-bytes
returns-clause-bytes c = bytes_of-number_of
