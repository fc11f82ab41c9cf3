pub mod ToGraph
