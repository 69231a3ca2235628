pub mod BenchList
