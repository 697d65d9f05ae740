pub mod ReadyThreads
